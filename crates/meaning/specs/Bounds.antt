-- Document 01, "Bounds" (the text's own is `tokens`').
use Rattle.std.specs.Prelude.{ℕ}

abbrev pub name_most : ℕ
name_most = 32

abbrev pub signals_most : ℕ
signals_most = 256

abbrev pub groups_most : ℕ
groups_most = 128

abbrev pub tables_most : ℕ
tables_most = 8

-- characters and events in one waveform entry, each
abbrev pub entry_most : ℕ
entry_most = 16

-- macros and procedures together
abbrev pub bodies_most : ℕ
bodies_most = 32

abbrev pub patterns_most : ℕ
patterns_most = 16

abbrev pub list_most : ℕ
list_most = 16

-- one argument's data
abbrev pub argument_most : ℕ
argument_most = 4_096

-- what `\r` repeats, from 1
abbrev pub repeat_most : ℕ
repeat_most = 4_096

-- a Loop's turns, from 1
abbrev pub loop_most : ℕ
loop_most = 16_777_215

-- a Period from 1, an event's time on both sides of the cycle's start, in ps
abbrev pub time_most : ℕ
time_most = 1_000_000_000

abbrev pub brackets_most : ℕ
brackets_most = 8

abbrev pub depth_most : ℕ
depth_most = 8

abbrev pub size_most : ℕ
size_most = 65_536

abbrev pub cycles_most : ℕ
cycles_most = 1_099_511_627_776
