-- Turn after turn: from what each promises to the service's answer.
use Prim.Native.Nat.{ℕ, ◌*◌, ◌/◌, ◌≤◌, ◌<◌}
use native.Mathlib.Omega.{arith}
use mathlib.Core.Path.{◌≡◌, refl, sym, ap, ◌∙◌, subst}
use mathlib.Core.Option.{none, some}
use mathlib.Core.List.{List, [], ◌∷◌, ◌++◌}
use lib.ListN.{length, take, drop, length-append}
use lib.Seq.{take_at}
use borrow.Author.Tests.{le-leb, lt-leb}
use Rattle.std.specs.Prelude.{Result, Ok, Err, Some, None}
use Rattle.tokens.specs.declared.Refusal.{Refusal}
use Rattle.tokens.specs.Refusals.{text_most, too_long}
use Rattle.tokens.specs.Bytes.{between}
use Rattle.tokens.proofs.Faults.{fault_too_long}
use Rattle.meaning.specs.Refusals.{no_room}
use Rattle.meaning.specs.Meaning.{given, refused, answering, Meaning, meaning_up_to, meaning}
use Rattle.saving.specs.Saving.{Span, of_block, hurt, overwritten, helped, verdict, Saved, saving, numbers_of, restored, save}
use Rattle.saving.specs.Steps.{Steps, still}
use Rattle.saving.specs.Found.{span_of}
use Rattle.saving.specs.Spans.{noted, noted_all, Notes}
use Rattle.saving.specs.Mends.{Turns, last_of, Mends}
use Rattle.saving.specs.declared.Hurt.{Hurt}
use Rattle.saving.specs.declared.Mended.{Mended}
use Rattle.saving.proofs.Spaces.{inked, inked_most}
use Rattle.saving.proofs.Repeating.{accepts_verdict, refused_verdict, turn_fewer, saving_beyond, steps_more, steps_length, steps_fewer, steps_saved, steps_beyond}
use Rattle.saving.proofs.Noting.{noted_more, all_length, numbers_length, all_front}

-- ---- one turn

module _ (text : List ℕ) where
  pub turn_accepted : {m : Meaning} → meaning text ≡ given m → Turns text text (Ok None)
  turn_accepted {m} e = (accepts_verdict text m e, refl)

  module _ {x : Refusal} (e : meaning text ≡ refused x.no x.place) where
    pub turn_beyond : none ≡ hurt text x.no x.place → Turns text text (Err x)
    unfolding helped
    turn_beyond k = (refused_verdict text e (sym k), refl)

    pub turn_hurt : {h : Hurt} → some (span_of h) ≡ hurt text x.no x.place → {behind : List ℕ} → behind ≡ overwritten (span_of h) text → Turns text behind (Ok (Some h))
    unfolding helped
    turn_hurt k b = (refused_verdict text e (sym k), b)

-- ---- turn after turn

-- THE INVARIANT: so far these spans are overwritten, and noted
pub record Mending (text behind numbers numbers' : List ℕ) (count : ℕ) : Type 0 where
  pub spans : List Span
  pub steps : Steps text spans behind
  pub counted : count ≡ length spans
  pub noted : numbers' ≡ noted_all spans numbers

module _ {text numbers : List ℕ} where
  pub mending_start : Mending text text numbers numbers 0
  unfolding noted_all
  mending_start = record { spans = []; steps = still; counted = refl; noted = refl }

  module _ {behind numbers' : List ℕ} {count : ℕ} (m : Mending text behind numbers numbers' count) where
    -- each span took a byte
    pub mending_few : length text ≤ text_most → count ≤ text_most
    mending_few h = omega (arith, m.counted, steps_fewer m.steps, inked_most text)

    pub mending_length : length behind ≡ length text
    mending_length = steps_length m.steps

    pub mending_room : length numbers' ≡ length numbers
    mending_room = ap length m.noted ∙ all_length m.spans numbers

    pub mending_on : {next : List ℕ} {h : Hurt} {k : ℕ} {more : List ℕ} → Turns behind next (Ok (Some h)) → Notes count (some (span_of h)) numbers' k more → Mending text next numbers more k
    mending_on {next} {h} {k} {more} a b = record {
      spans = m.spans ++ span_of h ∷ [];
      steps = subst (Steps text (m.spans ++ span_of h ∷ [])) (sym a.1) (steps_more m.steps a.0);
      counted = omega (arith, length-append m.spans (span_of h ∷ []), m.counted, b.counted);
      noted = b.numbers ∙ ap (λ (x : List ℕ). noted count (span_of h) x) m.noted ∙ ap (λ (i : ℕ). noted i (span_of h) (noted_all m.spans numbers)) m.counted ∙ noted_more m.spans (span_of h) numbers;
    }

    -- how many turns there can be
    pub mending_less : {next : List ℕ} {h : Hurt} → Turns behind next (Ok (Some h)) → inked next < inked behind
    mending_less {next} {h} a = rw a.1 (turn_fewer behind (span_of h) a.0)

    pub mending_done : {next : List ℕ} {u : Unit} → Turns behind next (Ok None) → Mends text next numbers numbers' (record { count = count; end = Ok u })
    mending_done {next} a = record { spans = m.spans; steps = subst (Steps text m.spans) (sym a.1) m.steps; counted = m.counted; noted = m.noted; ended = ap verdict a.1 ∙ a.0 }

    pub mending_beyond : {next : List ℕ} {x : Refusal} → Turns behind next (Err x) → Mends text next numbers numbers' (record { count = count; end = Err x })
    mending_beyond {next} a = record { spans = m.spans; steps = subst (Steps text m.spans) (sym a.1) m.steps; counted = m.counted; noted = m.noted; ended = ap verdict a.1 ∙ a.0 }

-- ---- all of them

module _ {text behind numbers numbers' : List ℕ} {r : Mended} (m : Mends text behind numbers numbers' r) where
  pub mends_refused : {x : Refusal} → r.end ≡ Err x → saving text ≡ refused x.no x.place
  mends_refused e = steps_beyond m.steps (m.ended ∙ ap last_of e)

  pub mends_saved : {u : Unit} → r.end ≡ Ok u → saving text ≡ given (record { text = behind; spans = m.spans })
  mends_saved e = steps_saved m.steps (m.ended ∙ ap last_of e)

-- whoever mends a text that can be saved saves it
pub mends_given : {text behind numbers numbers' : List ℕ} {r : Mended} → Mends text behind numbers numbers' r → (x : Saved) → saving text ≡ given x
    → (behind ≡ x.text) × (numbers' ≡ noted_all x.spans numbers)
mends_given {text} {behind} {numbers} {numbers'} {r} m x e = by r.end refl
  where
    by : (end : Result Unit Refusal) → r.end ≡ end → (behind ≡ x.text) × (numbers' ≡ noted_all x.spans numbers)
    by (Ok n) q =
        let y : record { text = behind; spans = m.spans } ≡ x = (let k = sym (mends_saved m q) ∙ e in cc) in
        (ap (λ (s : Saved). s.text) y, m.noted ∙ ap (λ (s : Saved). noted_all s.spans numbers) y)
    by (Err u) q = let k = sym (mends_refused m q) ∙ e in let z : ◌≡◌ {A = ℕ} 0 1 = cc in absurd (omega arith)

-- the numbers of spans that a log had room for are theirs in any list with room
pub log_front : (spans : List Span) (log numbers : List ℕ) {n : ℕ} → n ≡ length spans * 2 → n ≤ length log → n ≤ length numbers → take n (noted_all spans log) ++ drop n numbers ≡ noted_all spans numbers
log_front spans log numbers {n} q h k =
    let l = numbers_length spans in
    let f : take n (noted_all spans log) ≡ numbers_of spans = ap (take n) (all_front spans log (omega arith)) ∙ take_at (numbers_of spans) (drop (length (numbers_of spans)) log) n (omega arith) in
    ap (λ (x : List ℕ). x ++ drop n numbers) f ∙ ap (λ (i : ℕ). numbers_of spans ++ drop i numbers) (q ∙ sym l) ∙ sym (all_front spans numbers (omega arith))

-- ---- the service

pub too_long_saving : (text : List ℕ) → text_most < length text → saving text ≡ refused too_long 0
unfolding meaning helped hurt of_block between
too_long_saving text h = saving_beyond text too_long 0 (refused_verdict text {o = none} (rw (fault_too_long text h, meaning_up_to)) refl)

module _ (text numbers : List ℕ) where
  pub save_refused : {n p : ℕ} → saving text ≡ refused n p → save text numbers ≡ refused n p
  unfolding save answering
  save_refused e = rw (e, save)

  module _ {x : Saved} (e : saving text ≡ given x) where
    saves : save text numbers ≡ restored numbers x
    unfolding save answering
    saves = rw (e, save)

    pub save_full : length numbers / 2 < length x.spans → save text numbers ≡ refused no_room 0
    unfolding restored
    save_full h = saves ∙ rw (lt-leb (length (numbers_of x.spans)) (length numbers) (omega (arith, numbers_length x.spans)), restored)

    pub save_given : length x.spans ≤ length numbers / 2 → save text numbers ≡ given (record { count = length x.spans; text = x.text; spans = noted_all x.spans numbers })
    unfolding restored
    save_given h = saves ∙ rw (le-leb (length (numbers_of x.spans)) (length numbers) (omega (arith, numbers_length x.spans)), restored)
        (ap (λ (l : List ℕ). given (record { count = length x.spans; text = x.text; spans = l })) (sym (all_front x.spans numbers (omega arith))))
