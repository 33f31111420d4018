-- What 1 to 16 say of a text, case by case: the fault of its bytes, what reading it refuses, a listed pattern that is not there, a run that is too large.
use Prim.Native.Nat.{ℕ}
use native.Mathlib.Omega.{arith}
use mathlib.Core.Path.{◌≡◌, refl, sym, ap, ◌∙◌, subst}
use mathlib.Core.Bool.{Bool, true, false}
use mathlib.Core.Option.{Option, none, some}
use mathlib.Core.List.{List}
use Rattle.tokens.specs.Tokens.{Toks, toks, fault_of}
use Rattle.meaning.specs.Refusals.{too_large}
use Rattle.meaning.specs.Reader.{Res, ok, refuse}
use Rattle.meaning.specs.Body.{Body}
use Rattle.meaning.specs.Document.{Read, document}
use Rattle.meaning.specs.Meaning.{Answer, given, refused, answering, run_of, fitting}
use Rattle.texts.specs.Texts.{Sound, sized, runnable, sound}
use Rattle.texts.specs.Run.{sound_of}

module _ (text : List ℕ) where
  pub sound_fault : {n p : ℕ} → fault_of text ≡ some (n, p) → sound text ≡ refused n p
  unfolding sound
  sound_fault e = rw (e, sound)

  module _ (clean : fault_of text ≡ none) where
    sound_clean : sound text ≡ runnable (document (toks text 0))
    unfolding sound
    sound_clean = rw (clean, sound)

    pub sound_refused : {n p : ℕ} → document (toks text 0) ≡ refuse n p → sound text ≡ refused n p
    unfolding runnable
    sound_refused e = sound_clean ∙ ap runnable e

    module _ (d : Read) (us : Toks) (read : document (toks text 0) ≡ ok d us) where
      sound_read : sound text ≡ answering (run_of d.patterns d.listed) (sized d)
      unfolding runnable
      sound_read = sound_clean ∙ ap runnable read

      pub sound_undefined : {n p : ℕ} → run_of d.patterns d.listed ≡ refused n p → sound text ≡ refused n p
      unfolding answering
      sound_undefined e = sound_read ∙ rw e

      module _ {b : Body} (run : run_of d.patterns d.listed ≡ given b) where
        sound_run : sound text ≡ sized d b
        unfolding answering
        sound_run = sound_read ∙ rw run

        pub sound_large : fitting b ≡ false → sound text ≡ refused too_large 0
        unfolding sized
        sound_large e = sound_run ∙ rw (e, sized)

        pub sound_given : fitting b ≡ true → sound text ≡ given (sound_of d b)
        unfolding sized
        sound_given e = sound_run ∙ rw (e, sized)

-- what is left: the text was read, its listed patterns are the run, and it fits
pub record Runs (text : List ℕ) (x : Sound) : Type 0 where
  pub rest : Toks
  pub read : document (toks text 0) ≡ ok x.read rest
  pub run_is : run_of x.read.patterns x.read.listed ≡ given x.run
  pub fits : fitting x.run ≡ true

pub sound_runs : (text : List ℕ) {x : Sound} → sound text ≡ given x → Runs text x
unfolding sound runnable sized answering
sound_runs text {x} e = by_fault (fault_of text) e
  where
    by_fit : (d : Read) (us : Toks) → document (toks text 0) ≡ ok d us → (b : Body) → run_of d.patterns d.listed ≡ given b → (t : Bool) → fitting b ≡ t
        → ◌≡◌ {A = Answer Sound} (elim t [ false ↦ refused too_large 0 | true ↦ given (sound_of d b) ]) (given x) → Runs text x
    by_fit d us k b r true f e = let q : sound_of d b ≡ x = cc in subst (Runs text) q (record { rest = us; read = k; run_is = r; fits = f })
    by_fit d us k b r false f e = let z : ◌≡◌ {A = ℕ} 0 1 = cc in absurd (omega arith)

    by_run : (d : Read) (us : Toks) → document (toks text 0) ≡ ok d us → (a : Answer Body) → run_of d.patterns d.listed ≡ a → answering a (sized d) ≡ given x
        → Runs text x
    by_run d us k (given b) r e = by_fit d us k b r (fitting b) refl e
    by_run d us k (refused n p) r e = let z : ◌≡◌ {A = ℕ} 0 1 = cc in absurd (omega arith)

    by_read : (r : Res Read) → document (toks text 0) ≡ r → runnable r ≡ given x → Runs text x
    by_read (ok d us) k e = by_run d us k (run_of d.patterns d.listed) refl e
    by_read (refuse n p) k e = let z : ◌≡◌ {A = ℕ} 0 1 = cc in absurd (omega arith)

    by_fault : (o : Option (ℕ × ℕ))
        → ◌≡◌ {A = Answer Sound} (elim o [ some f ↦ refused f.0 f.1 | none ↦ runnable (document (toks text 0)) ]) (given x) → Runs text x
    by_fault none e = by_read (document (toks text 0)) refl e
    by_fault (some f) e = let z : ◌≡◌ {A = ℕ} 0 1 = cc in absurd (omega arith)
