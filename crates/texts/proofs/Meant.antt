-- The meaning of a text is what 1 to 16 leave of it, and then 17 and 25.
use Prim.Native.Nat.{ℕ}
use mathlib.Core.Path.{◌≡◌, refl}
use mathlib.Core.Bool.{Bool, true, false}
use mathlib.Core.Option.{Option, none, some}
use mathlib.Core.List.{List}
use Rattle.tokens.specs.Tokens.{toks, fault_of}
use Rattle.meaning.specs.Refusals.{too_large}
use Rattle.meaning.specs.Reader.{Res, ok, refuse}
use Rattle.meaning.specs.Body.{Body}
use Rattle.meaning.specs.Document.{Read, document}
use Rattle.meaning.specs.Meaning.{Answer, given, refused, answering, run_of, fitting, judged, accept, meaning}
use Rattle.texts.specs.Texts.{Sound, sized, runnable, sound, played}

judged_meant : (d : Read) (r : Body) → judged d r ≡ answering (sized d r) played
unfolding judged sized answering played
judged_meant d r = by (fitting r)
  where
    by : (b : Bool) → elim b [ false ↦ refused too_large 0 | true ↦ played (record { read = d; run = r }) ]
        ≡ answering {A = Sound} (elim b [ false ↦ refused too_large 0 | true ↦ given (record { read = d; run = r }) ]) played
    by true = refl
    by false = refl

accept_meant : (x : Res Read) → accept x ≡ answering (runnable x) played
unfolding accept runnable answering
accept_meant (refuse n p) = refl
accept_meant (ok d ts) = by (run_of d.patterns d.listed)
  where
    by : (a : Answer Body) → answering a (judged d) ≡ answering (answering a (sized d)) played
    by (given r) = judged_meant d r
    by (refused n p) = refl

pub meant : (text : List ℕ) → meaning text ≡ answering (sound text) played
unfolding meaning sound answering
meant text = by (fault_of text)
  where
    by : (o : Option (ℕ × ℕ)) → elim o [ some f ↦ refused f.0 f.1 | none ↦ accept (document (toks text 0)) ]
        ≡ answering {A = Sound} (elim o [ some f ↦ refused f.0 f.1 | none ↦ runnable (document (toks text 0)) ]) played
    by none = accept_meant (document (toks text 0))
    by (some f) = refl
