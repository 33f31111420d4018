-- The refusals above the tokens, by their numbers in document 01 (1 to 4 are those of `tokens`).
use Rattle.std.specs.Prelude.{ℕ}

-- name needed, word isn't one
abbrev pub not_name : ℕ
not_name = 5

-- name unknown
abbrev pub unknown_name : ℕ
unknown_name = 6

-- name already used
abbrev pub used_name : ℕ
used_name = 7

-- one item, bracket, event or list entry too many; 17 CHARS
abbrev pub too_many : ℕ
too_many = 8

-- number malformed or out of bounds
abbrev pub bad_number : ℕ
bad_number = 9

-- group: repeat or absent; empty
abbrev pub bad_group : ℕ
bad_group = 10

-- waveform: repeated character; alternatives; time not rising
abbrev pub bad_waveform : ℕ
bad_waveform = 11

-- not a waveform character; signal twice; length wrong or above 4,096; a letter, digit or LF as mark
abbrev pub bad_data : ℕ
bad_data = 12

-- `#` misplaced; argument's signal has no `#` or isn't one signal; Shift without `#`; missing or unfit arguments
abbrev pub bad_argument : ℕ
bad_argument = 13

-- a body's depth above 8
abbrev pub too_deep : ℕ
too_deep = 14

-- listed pattern not defined
abbrev pub not_defined : ℕ
not_defined = 15

-- run's size or cycles too large
abbrev pub too_large : ℕ
too_large = 16

-- cycle without a table, or an assigned character without a waveform in it
abbrev pub not_playable : ℕ
not_playable = 17

-- no such table, signal or character
abbrev pub no_such : ℕ
no_such = 18

-- buffer too short for the rows or events due
abbrev pub no_room : ℕ
no_room = 19

-- a cycle's last event does not come before the next cycle's first (request 8)
abbrev pub across_edge : ℕ
across_edge = 25
