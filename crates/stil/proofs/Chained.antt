-- Calls of the intake from C chain as the intake's own calls do: a state decodes to the answer that it was encoded from, and six times 0 to its beginning.
use Prim.Native.Nat.{ℕ, ◌<◌}
use native.Mathlib.Nat.{mod-lt, mod-eq_of_lt}
use native.Mathlib.Omega.{arith}
use mathlib.Core.Path.{◌≡◌, refl, sym, ap, ◌∙◌}
use mathlib.Core.Bool.{Bool, true, false, ◌||◌}
use mathlib.Core.List.{List, [], ◌∷◌, ◌++◌}
use lib.ListN.{length, drop}
use lib.Dec.{eqb}
use Rattle.tokens.specs.Written.{cases}
use Rattle.intake.specs.declared.Intake.{Intake}
use Rattle.std.specs.Prelude.{Ok, Err}
use Rattle.intake.specs.declared.Stage.TheVariants.{Open, Closed}
use Rattle.intake.specs.Intake.{Progress, Step, stepped, mark_with, outside, behind_slash, in_line, in_block, behind_star, step, refusal, refusal_of, Taken, on, refused, behind, takes, room_of, after_taking, chunked, closing, after_closing, closed, begun}
use Rattle.intake.specs.Calls.{calls, intake}
use Rattle.stil.specs.Intakes.{byte_of, progress_is, progress_of, numbers_of, encoded, Fits, Carries, calls_in, intake_in}

-- ---- decoded again

pub decode_encode : (p : Progress) → Fits p → (state : List ℕ) → progress_of (encoded p state) ≡ p
unfolding progress_is numbers_of cases Fits
decode_encode (Ok (Open x)) f state = rw (mod-eq_of_lt f.0, mod-eq_of_lt f.1)
decode_encode (Err r) f state = rw (mod-eq_of_lt f)
decode_encode (Ok (Closed n)) f state = refl

-- six times 0, whatever stands behind them
pub fresh : (rest : List ℕ) → progress_of (0 ∷ 0 ∷ 0 ∷ 0 ∷ 0 ∷ 0 ∷ rest) ≡ begun
unfolding progress_is cases
fresh rest = refl

-- ---- every state decodes to what fits, and every call answers what fits

-- a property of each answer of a table
abbrev Each : {A : Type 0} → (A → Type 0) → List (Bool × A) → Type 0
Each P [] = Unit {0}
Each P (x ∷ xs) = P x.1 × Each P xs

module _ {A : Type 0} (P : A → Type 0) where
  by_cases : (xs : List (Bool × A)) (z : A) → Each P xs → P z → P (cases xs z)
  unfolding cases
  by_cases [] z h k = k
  by_cases (x ∷ xs) z h k = by x.0 (by_cases xs z h.1 k)
    where
      by : (t : Bool) → P (cases xs z) → P (elim t [ true ↦ x.1 | false ↦ cases xs z ])
      by true more = h.0
      by false more = more

small : (n : ℕ) → byte_of n < 256
small n = mod-lt n (omega arith)

pub decoded_fits : (state : List ℕ) → Fits (progress_of state)
unfolding progress_is Fits
decoded_fits state = by_cases Fits _ _ ((small _, small _), (tt, tt)) (small _)

abbrev Small : Intake → Type 0
Small x = (x.run < 256) × (x.mode < 256)

abbrev SmallStep : Step → Type 0
SmallStep s = Small s.intake

mark_small : (run b : ℕ) → mark_with run b < 256
unfolding mark_with
mark_small run b = by (eqb b 10 || eqb run 10)
  where
    by : (t : Bool) → elim t [ true ↦ 10 | false ↦ 32 ] < 256
    by true = omega arith
    by false = omega arith

module _ (x : Intake) (h : Small x) (b : ℕ) where
  small_step : (adds : List ℕ) (run mode opening : ℕ) → run < 256 → mode < 256 → SmallStep (stepped x adds run mode opening)
  unfolding stepped
  small_step adds run mode opening f g = (f, g)

  outside_small : SmallStep (outside x b)
  unfolding outside
  outside_small =
      by_cases SmallStep _ _ (small_step _ _ _ _ h.0 (omega arith), (small_step _ _ _ _ (mark_small _ _) (omega arith), tt))
      (small_step _ _ _ _ (omega arith) (omega arith))

  slash_small : SmallStep (behind_slash x b)
  unfolding behind_slash
  slash_small =
      by_cases SmallStep _ _
      (small_step _ _ _ _ (mark_small _ _) (omega arith), (small_step _ _ _ _ (mark_small _ _) (omega arith), (small_step _ _ _ _ (mark_small _ _) (omega arith), tt)))
      (small_step _ _ _ _ (omega arith) (omega arith))

  line_small : SmallStep (in_line x b)
  unfolding in_line
  line_small = small_step _ _ _ _ (mark_small _ _) (by_cases (λ n. n < 256) _ _ (omega arith, tt) (omega arith))

  block_small : SmallStep (in_block x b)
  unfolding in_block
  block_small = small_step _ _ _ _ (mark_small _ _) (by_cases (λ n. n < 256) _ _ (omega arith, tt) (omega arith))

  star_small : SmallStep (behind_star x b)
  unfolding behind_star
  star_small = by_cases SmallStep _ _ (small_step _ _ _ _ (mark_small _ _) (omega arith), tt) block_small

  step_small : SmallStep (step x b)
  unfolding step
  step_small = by_cases SmallStep _ _ (slash_small, (line_small, (block_small, (star_small, tt)))) outside_small

refusal_small : (room : ℕ) (x : Intake) (b : ℕ) → refusal room x b < 256
unfolding refusal refusal_of
refusal_small room x b = by_cases (λ n. n < 256) _ _ (omega arith, (omega arith, (omega arith, tt))) (omega arith)

abbrev SmallTaken : Taken → Type 0
SmallTaken (on x adds) = Small x
SmallTaken (refused n p) = n < 256

behind_small : (adds : List ℕ) (t : Taken) → SmallTaken t → SmallTaken (behind adds t)
unfolding behind
behind_small adds (on x more) h = h
behind_small adds (refused n p) h = h

takes_small : (room : ℕ) (x : Intake) → Small x → (s : List ℕ) → SmallTaken (takes room x s)
unfolding takes
takes_small room x h [] = h
takes_small room x h (b ∷ s) = by (eqb (refusal room x b) 0) (takes_small room (step x b).intake (step_small x h b) s)
  where
    by : (t : Bool) → SmallTaken (takes room (step x b).intake s)
        → SmallTaken
        (elim t [
          | true ↦ behind (step x b).adds (takes room (step x b).intake s)
          | false ↦ refused (refusal room x b) x.taken
        ])
    by true more = behind_small (step x b).adds (takes room (step x b).intake s) more
    by false more = refusal_small room x b

closing_small : (room : ℕ) (x : Intake) → Small x → SmallTaken (closing room x)
unfolding closing
closing_small room x h = by_cases SmallTaken _ _ (omega arith, (omega arith, tt)) h

taking_fits : (store : List ℕ) (at : ℕ) (t : Taken) → SmallTaken t → Fits (after_taking store at t).0
unfolding after_taking Fits
taking_fits store at (on x adds) h = h
taking_fits store at (refused n p) h = h

ending_fits : (store : List ℕ) (at : ℕ) (t : Taken) → SmallTaken t → Fits (after_closing store at t).0
unfolding after_closing Fits
ending_fits store at (on x adds) h = tt
ending_fits store at (refused n p) h = h

pub chunked_fits : (p : Progress) → Fits p → (chunk store : List ℕ) → Fits (chunked p chunk store).0
unfolding chunked Fits
chunked_fits (Ok (Open x)) f chunk store = taking_fits store x.stored _ (takes_small (room_of store) x f chunk)
chunked_fits (Err r) f chunk store = f
chunked_fits (Ok (Closed n)) f chunk store = f

pub closed_fits : (p : Progress) → Fits p → (store : List ℕ) → Fits (closed p store).0
unfolding closed Fits
closed_fits (Ok (Open x)) f store = ending_fits store x.stored _ (closing_small (room_of store) x f)
closed_fits (Err r) f store = f
closed_fits (Ok (Closed n)) f store = f

-- ---- calls one after the other

-- what is encoded last stands, with what stood behind the first six numbers
encoded_again : (p q : Progress) (state : List ℕ) → encoded q (encoded p state) ≡ encoded q state
unfolding numbers_of
encoded_again p q state = ap (λ (n : ℕ). numbers_of q ++ drop n (encoded p state)) (six q) ∙ ap (λ (s : List ℕ). numbers_of q ++ s) (rest p) ∙ ap (λ (n : ℕ). numbers_of q ++ drop n state) (sym (six q))
  where
    six : (p : Progress) → length (numbers_of p) ≡ 6
    six (Ok (Open x)) = refl
    six (Err r) = refl
    six (Ok (Closed n)) = refl

    rest : (p : Progress) → drop 6 (encoded p state) ≡ drop 6 state
    rest (Ok (Open x)) = refl
    rest (Err r) = refl
    rest (Ok (Closed n)) = refl

-- THE LAW: what the calls leave in a state is what the intake's own calls answer, and the store is theirs
pub calls_chain : (p : Progress) → Fits p → (state : List ℕ) (cs : List (List ℕ)) (store : List ℕ)
    → calls_in (encoded p state) cs store ≡ (encoded (calls p cs store).0 state, (calls p cs store).1)
unfolding calls_in calls
calls_chain p f state [] store = refl
calls_chain p f state (c ∷ cs) store =
    let x = chunked p c store in
    ap (λ (w : Progress). calls_in (encoded (chunked w c store).0 (encoded p state)) cs (chunked w c store).1) (decode_encode p f state)
    ∙ ap (λ (s : List ℕ). calls_in s cs x.1) (encoded_again p x.0 state)
    ∙ calls_chain x.0 (chunked_fits p f c store) state cs x.1

calls_fit : (p : Progress) → Fits p → (cs : List (List ℕ)) (store : List ℕ) → Fits (calls p cs store).0
unfolding calls
calls_fit p f [] store = f
calls_fit p f (c ∷ cs) store = calls_fit (chunked p c store).0 (chunked_fits p f c store) cs (chunked p c store).1

-- from six times 0 on: chunks and the close answer what the intake answers of them
pub intake_chain : (rest : List ℕ) (cs : List (List ℕ)) (store : List ℕ)
    → intake_in (0 ∷ 0 ∷ 0 ∷ 0 ∷ 0 ∷ 0 ∷ rest) cs store ≡ (encoded (intake cs store).0 (0 ∷ 0 ∷ 0 ∷ 0 ∷ 0 ∷ 0 ∷ rest), (intake cs store).1)
unfolding intake_in intake numbers_of Fits
intake_chain rest cs store =
    let state : List ℕ = 0 ∷ 0 ∷ 0 ∷ 0 ∷ 0 ∷ 0 ∷ rest in
    let f : Fits begun = (omega arith, omega arith) in
    let x = calls begun cs store in
    let y = closed x.0 x.1 in
    ap (λ (w : List ℕ × List ℕ). let z = closed (progress_of w.0) w.1 in (encoded z.0 w.0, z.1)) (calls_chain begun f state cs store)
    ∙ ap (λ (w : Progress). (encoded (closed w x.1).0 (encoded x.0 state), (closed w x.1).1)) (decode_encode x.0 (calls_fit begun f cs store) state)
    ∙ ap (λ (s : List ℕ). (s, y.1)) (encoded_again x.0 y.0 state)

-- ---- one answer, one state and one store only

pub carries_determined : {call : Progress → List ℕ → Progress × List ℕ} {state store s t a b : List ℕ} {q r : ℕ}
    → Carries call state store q s a → Carries call state store r t b → (q ≡ r) × (s ≡ t) × (a ≡ b)
carries_determined h k = (h.number ∙ sym k.number, h.state_is ∙ sym k.state_is, h.store_is ∙ sym k.store_is)
