-- The statuses and their numbers (RULES.md, 9.1).
-- Assumes nothing: these are definitions.
use Rattle.std.specs.Prelude.{ℕ, Bool, true, false}
use Rattle.status.specs.declared.Status.{Status}
use Rattle.status.specs.declared.Status.TheVariants.{Success, InvalidParameter, Unsupported, BufferTooSmall, WriteProtected, OutOfResources, VolumeCorrupted, NotFound, AlreadyStarted}

abbrev pub status_number : Status → ℕ
status_number Success = 0
status_number InvalidParameter = 2
status_number Unsupported = 3
status_number BufferTooSmall = 5
status_number WriteProtected = 8
status_number OutOfResources = 9
status_number VolumeCorrupted = 10
status_number NotFound = 14
status_number AlreadyStarted = 20

-- done; any other status is a refusal
abbrev pub is_success : Status → Bool
is_success Success = true
is_success InvalidParameter = false
is_success Unsupported = false
is_success BufferTooSmall = false
is_success WriteProtected = false
is_success OutOfResources = false
is_success VolumeCorrupted = false
is_success NotFound = false
is_success AlreadyStarted = false
