-- Laws of the statuses. Assumes nothing.
use Rattle.std.specs.Prelude.{◌≡◌, refl, true, eqb}
use Rattle.std.proofs.lemmas.Bool.{false≢true}
use denote.Enum.Bare.{sameb}
use Rattle.status.specs.contracts.Status.{the_type}
use Rattle.status.specs.declared.Status.{Status}
use Rattle.status.specs.declared.Status.TheVariants.{Success, InvalidParameter, Unsupported, BufferTooSmall, WriteProtected, OutOfResources, VolumeCorrupted, NotFound, AlreadyStarted}
use Rattle.status.specs.Status.{status_number, is_success}

-- a status that is done is 0
pub success_only : (n : Status) → is_success n ≡ true → n ≡ Success
success_only Success h = refl
success_only InvalidParameter h = absurd (false≢true h)
success_only Unsupported h = absurd (false≢true h)
success_only BufferTooSmall h = absurd (false≢true h)
success_only WriteProtected h = absurd (false≢true h)
success_only OutOfResources h = absurd (false≢true h)
success_only VolumeCorrupted h = absurd (false≢true h)
success_only NotFound h = absurd (false≢true h)
success_only AlreadyStarted h = absurd (false≢true h)

-- 0 is the number of success alone
pub zero_success : (n : Status) → eqb (status_number n) 0 ≡ is_success n
zero_success Success = refl
zero_success InvalidParameter = refl
zero_success Unsupported = refl
zero_success BufferTooSmall = refl
zero_success WriteProtected = refl
zero_success OutOfResources = refl
zero_success VolumeCorrupted = refl
zero_success NotFound = refl
zero_success AlreadyStarted = refl

-- the code's == with success
pub equals_success : (n : Status) → sameb the_type n Success ≡ is_success n
equals_success Success = refl
equals_success InvalidParameter = refl
equals_success Unsupported = refl
equals_success BufferTooSmall = refl
equals_success WriteProtected = refl
equals_success OutOfResources = refl
equals_success VolumeCorrupted = refl
equals_success NotFound = refl
equals_success AlreadyStarted = refl
