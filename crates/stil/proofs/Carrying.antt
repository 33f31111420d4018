-- A call of the intake as a caller in C has it: too short a state, or the answer told and the state encoded.
use Prim.Native.Nat.{ℕ, ◌+◌, ◌*◌, ◌≤◌, ◌<◌}
use mathlib.Core.Path.{◌≡◌, ap, ◌∙◌}
use mathlib.Core.List.{List, [], ◌∷◌}
use lib.ListN.{length}
use borrow.Author.Tests.{le-leb, lt-leb, eq-eqb, ne_eqb}
use Rattle.tokens.specs.Written.{cases}
use Rattle.intake.specs.Intake.{raw_most, Progress, open_at, refused_with, closed_at}
use Rattle.intake.specs.declared.Intake.{Intake}
use Rattle.std.specs.Prelude.{Ok, Err}
use Rattle.intake.specs.declared.Stage.{Stage}
use Rattle.intake.specs.declared.Stage.TheVariants.{Open, Closed}
use Rattle.tokens.specs.declared.Refusal.{Refusal}
use Rattle.meaning.specs.Refusals.{no_room}
use Rattle.meaning.specs.Meaning.{given, refused}
use Rattle.texts.specs.Told.{packed_refusal}
use Rattle.verdicts.specs.Buffers.{afterwards}
use Rattle.stil.specs.Interface.{fronted}
use Rattle.stil.specs.Intakes.{state_least, is_open, is_refused, is_closed, byte_of, progress_is, progress_of, numbers_of, encoded, called_in, raw_refusal, told_by, told_in, Tells, Carries}

-- ---- what six numbers tell

module _ (kind a b c d e : ℕ) where
  pub is_open_lem : {run mode : ℕ} → kind ≡ is_open → run ≡ byte_of c → mode ≡ byte_of d
      → open_at (record { taken = a; stored = b; run = run; mode = mode; opening = e }) ≡ progress_is kind a b c d e
  unfolding progress_is cases
  is_open_lem h f g = rw (f, g, eq-eqb kind is_open h, progress_is)

  pub is_closed_lem : (kind ≡ is_open → ⊥) → kind ≡ is_closed → closed_at a ≡ progress_is kind a b c d e
  unfolding progress_is cases
  is_closed_lem g h = rw (ne_eqb kind is_open g, eq-eqb kind is_closed h, progress_is)

  pub is_refused_lem : {n : ℕ} → (kind ≡ is_open → ⊥) → (kind ≡ is_closed → ⊥) → n ≡ byte_of a → refused_with n b ≡ progress_is kind a b c d e
  unfolding progress_is cases
  is_refused_lem g h f = rw (f, ne_eqb kind is_open g, ne_eqb kind is_closed h, progress_is)

-- ---- a refusal as one number

pub raw_near : (n p : ℕ) → p ≤ raw_most → p * 32 + n ≡ raw_refusal n p
raw_near n p h = rw (le-leb p raw_most h, raw_refusal)

pub raw_far : (n p : ℕ) → raw_most < p → n ≡ raw_refusal n p
raw_far n p h = rw (lt-leb p raw_most h, raw_refusal)

-- ---- an answer told

module _ {p : Progress} {state state' : List ℕ} where
  pub tells_open : {at : Stage} {x : Intake} → p ≡ Ok at → at ≡ Open x → state' ≡ fronted (is_open ∷ x.taken ∷ x.stored ∷ x.run ∷ x.mode ∷ x.opening ∷ []) state
      → Tells p state 0 state'
  unfolding told_by numbers_of
  tells_open e k s = record { number = rw (e, k); state_is = s ∙ rw (e, k) }

  pub tells_refused : {x : Refusal} {r : ℕ} → p ≡ Err x → state' ≡ fronted (is_refused ∷ x.no ∷ x.place ∷ 0 ∷ 0 ∷ 0 ∷ []) state → r ≡ raw_refusal x.no x.place
      → Tells p state r state'
  unfolding told_by numbers_of
  tells_refused e s h = record { number = h ∙ rw e; state_is = s ∙ rw e }

  pub tells_closed : {at : Stage} {n : ℕ} → p ≡ Ok at → at ≡ Closed n → state' ≡ fronted (is_closed ∷ n ∷ 0 ∷ 0 ∷ 0 ∷ 0 ∷ []) state → Tells p state 0 state'
  unfolding told_by numbers_of
  tells_closed e k s = record { number = rw (e, k); state_is = s ∙ rw (e, k) }

-- ---- a call

module _ (call : Progress → List ℕ → Progress × List ℕ) (state store : List ℕ) where
  called_short : length state < state_least → called_in call state store ≡ refused no_room 0
  unfolding called_in
  called_short h = rw (lt-leb state_least (length state) h, called_in)

  called_long : state_least ≤ length state → called_in call state store ≡ given (call (progress_of state) store)
  unfolding called_in
  called_long h = rw (le-leb state_least (length state) h, called_in)

  pub carries_none : {r : ℕ} → length state < state_least → r ≡ packed_refusal no_room 0 → Carries call state store r state store
  unfolding told_in afterwards
  carries_none h e = let k = called_short h in record { number = e ∙ rw k; state_is = rw k; store_is = rw k }

  pub carries_all : {p q : Progress} {r : ℕ} {state' store' : List ℕ} → state_least ≤ length state → p ≡ progress_of state
      → (q ≡ (call p store).0) × (store' ≡ (call p store).1) → Tells q state r state' → Carries call state store r state' store'
  unfolding told_in afterwards
  carries_all {p} {q} h e f t =
      let k = called_long h in
      let z : q ≡ (call (progress_of state) store).0 = f.0 ∙ ap (λ (w : Progress). (call w store).0) e in
      record {
        number = t.number ∙ ap told_by z ∙ rw k;
        state_is = t.state_is ∙ ap (λ (w : Progress). encoded w state) z ∙ rw k;
        store_is = f.1 ∙ ap (λ (w : Progress). (call w store).1) e ∙ rw k;
      }
