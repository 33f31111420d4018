use lib.ListN.{take}
use Rattle.noted.specs.Noted.{Grows, CharsNoted}
use Rattle.noted.proofs.note_word.Given as goal

abbrev pub invariant-loop-c : goal.invariant-loop-c
invariant-loop-c l = Grows l.initial.used l.used × CharsNoted l.used l.s (take l.c-index l.word)
