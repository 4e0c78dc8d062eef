-- The lines of the dump of two entries of the bench readings, of one whose second entry is bad, and of an empty one. Assumes nothing.
use Rattle.std.specs.Prelude.{◌≡◌, refl, true, false}
use Rattle.list_dump.specs.Lines.{ascii, decimal_within, marks, entry_line, closing_line}

first_entry : entry_line 0 (record { size = 44; lock = 1; rank = 65 }) ≡ ascii "0 size 44 lock 1 marks all\n"
unfolding entry_line marks decimal_within
first_entry = refl

second_entry : entry_line 1 (record { size = 50; lock = 0; rank = 1 }) ≡ ascii "1 size 50 lock 0 marks 1\n"
unfolding entry_line marks decimal_within
second_entry = refl

closing : closing_line (record { whole = true; ended = false; entries = 2; bytes = 94 }) ≡ ascii "entries 2 bytes 94\n"
unfolding closing_line decimal_within
closing = refl

bad : closing_line (record { whole = false; ended = true; entries = 1; bytes = 44 }) ≡ ascii "bad at 44\n"
unfolding closing_line decimal_within
bad = refl

empty : closing_line (record { whole = true; ended = false; entries = 0; bytes = 0 }) ≡ ascii "entries 0 bytes 0\n"
unfolding closing_line decimal_within
empty = refl
