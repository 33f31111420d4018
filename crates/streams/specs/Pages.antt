-- How much room there is for a text, for a raw text, and for a page of rows.
use Rattle.std.specs.Prelude.{ℕ}

abbrev pub rows_most : ℕ
rows_most = 1_048_576

abbrev pub room_most : ℕ
room_most = 65_537

abbrev pub raw_room : ℕ
raw_room = 1_048_577
