-- THE THEOREMS of request 13, over the definitions: a saved text is accepted, and differs from the text only in the spans, which are spaces there; a text beyond help
-- is refused by the last refusal; and each overwriting is that of a block that the refusal lies in, or of an entry of the list.
use Prim.Native.Nat.{ℕ, zero, suc, ◌≤◌, ◌<◌}
use native.Mathlib.Omega.{arith}
use mathlib.Core.Path.{◌≡◌, refl, sym, ◌∙◌, subst}
use mathlib.Core.Bool.{Bool, true, false, ◌&&◌, ◌||◌}
use mathlib.Core.Option.{Option, none, some}
use mathlib.Core.List.{List, [], ◌∷◌}
use lib.Dec.{leb, ltb, eqb}
use lib.ListN.{length, get_or}
use borrow.Author.Tests.{leb-true, leb-false, ltb-true, ltb-false, eqb-true}
use Rattle.tokens.specs.Tokens.{toks}
use Rattle.meaning.specs.Refusals.{not_defined}
use Rattle.meaning.specs.Meaning.{Answer, given, refused, answering, Meaning, meaning}
use Rattle.saving.specs.Saving.{Span, Block, blocks, in_block, block_at, entry, of_block, hurt, overwritten, Verdict, accepted, hurt_in, beyond_help, verdict, Saved, first, saving}
use Rattle.saving.specs.Steps.{Steps, still, step}
use Rattle.saving.proofs.Spaces.{spaced_inside, spaced_before, spaced_behind, inked, inked_most}
use Rattle.saving.proofs.Entries.{ListedAt, listed_place}
use Rattle.saving.proofs.Repeating.{hurt_refuses, accepts_verdict, accepted_means, beyond_refuses, hurt_span, turn_fewer, turn_length, saving_accepted, saving_beyond, saving_hurt, steps_length, steps_fewer}

-- ---- the repetition ends with an accepted text, or beyond help

-- what an answer says of the text
abbrev pub Ended : List ℕ → Answer Saved → Type 0
Ended text (given x) = Steps text x.spans x.text × (verdict x.text ≡ accepted)
Ended text (refused n p) = (l : List Span) × (last : List ℕ) × Steps text l last × (verdict last ≡ beyond_help n p)

ended : (k : ℕ) (text : List ℕ) → inked text < k → Ended text (saving text)
unfolding answering first
ended zero text h = absurd (omega arith)
ended (suc k) text h = by (verdict text) refl (λ s e. ended k (overwritten s text) (omega (arith, turn_fewer text s e)))
  where
    one_before : (s : Span) → verdict text ≡ hurt_in s → (a : Answer Saved) → Ended (overwritten s text) a → Ended text (answering a (λ x. given (first s x)))
    one_before s e (given x) i = (step e i.0, i.1)
    one_before s e (refused n p) i = (s ∷ i.0, i.1, step e i.2, i.3)

    by : (v : Verdict) → verdict text ≡ v → ((s : Span) → verdict text ≡ hurt_in s → Ended (overwritten s text) (saving (overwritten s text))) → Ended text (saving text)
    by accepted e ih = subst (Ended text) (sym (saving_accepted text e)) (still, e)
    by (hurt_in s) e ih = subst (Ended text) (sym (saving_hurt text s e)) (one_before s e (saving (overwritten s text)) (ih s e))
    by (beyond_help n p) e ih = subst (Ended text) (sym (saving_beyond text n p e)) ([], text, still, e)

-- THE LAW
pub saving_ends : (text : List ℕ) → Ended text (saving text)
saving_ends text = ended (suc (inked text)) text (omega arith)

-- ---- byte by byte

unfoldable pub in_span : ℕ → Span → Bool
in_span i s = leb s.first i && ltb i s.behind

unfoldable pub in_some : ℕ → List Span → Bool
in_some i [] = false
in_some i (s ∷ l) = in_span i s || in_some i l

-- each span lies in a text of so many bytes, and is not empty
unfoldable pub AllWithin : ℕ → List Span → Type 0
AllWithin n [] = Unit {0}
AllWithin n (s ∷ l) = ((s.first < s.behind) × (s.behind ≤ n)) × AllWithin n l

module _ (text : List ℕ) (s : Span) (i : ℕ) where
  one_inside : in_span i s ≡ true → i < length text → get_or (overwritten s text) i 0 ≡ 32
  unfolding in_span overwritten
  one_inside e h = by (leb s.first i) (ltb i s.behind) refl refl e
    where
      by : (x y : Bool) → leb s.first i ≡ x → ltb i s.behind ≡ y → (x && y) ≡ true → get_or (overwritten s text) i 0 ≡ 32
      by true true p q e = spaced_inside s.first s.behind i text (leb-true s.first i p) (ltb-true i s.behind q) h
      by true false p q e = let z : ◌≡◌ {A = ℕ} 0 1 = cc in absurd (omega arith)
      by false y p q e = let z : ◌≡◌ {A = ℕ} 0 1 = cc in absurd (omega arith)

  one_outside : in_span i s ≡ false → get_or (overwritten s text) i 0 ≡ get_or text i 0
  unfolding in_span overwritten
  one_outside e = by (leb s.first i) (ltb i s.behind) refl refl e
    where
      by : (x y : Bool) → leb s.first i ≡ x → ltb i s.behind ≡ y → (x && y) ≡ false → get_or (overwritten s text) i 0 ≡ get_or text i 0
      by false y p q e = spaced_before s.first s.behind i text (leb-false s.first i p)
      by true false p q e = spaced_behind s.first s.behind i text (ltb-false i s.behind q)
      by true true p q e = let z : ◌≡◌ {A = ℕ} 0 1 = cc in absurd (omega arith)

-- a space stays one
steps_keep : {text last : List ℕ} {l : List Span} → Steps text l last → (i : ℕ) → i < length text → get_or text i 0 ≡ 32 → get_or last i 0 ≡ 32
steps_keep still i h e = e
steps_keep {last = last} (step {text = text} {s = s} v r) i h e = steps_keep r i (rw (turn_length text s) h) (by (in_span i s) refl)
  where
    by : (b : Bool) → in_span i s ≡ b → get_or (overwritten s text) i 0 ≡ 32
    by true q = one_inside text s i q h
    by false q = one_outside text s i q ∙ e

steps_inside : {text last : List ℕ} {l : List Span} → Steps text l last → (i : ℕ) → i < length text → in_some i l ≡ true → get_or last i 0 ≡ 32
unfolding in_some
steps_inside still i h e = let z : ◌≡◌ {A = ℕ} 0 1 = cc in absurd (omega arith)
steps_inside {last = last} (step {text = text} {s = s} {l = l} v r) i h e =
    let on : i < length (overwritten s text) = rw (turn_length text s) h in
    by (in_span i s) refl e (steps_keep r i on) (steps_inside r i on)
  where
    by : (b : Bool) → in_span i s ≡ b → (b || in_some i l) ≡ true → (get_or (overwritten s text) i 0 ≡ 32 → get_or last i 0 ≡ 32) → (in_some i l ≡ true → get_or last i 0 ≡ 32)
        → get_or last i 0 ≡ 32
    by true q e keep ih = keep (one_inside text s i q h)
    by false q e keep ih = ih e

steps_outside : {text last : List ℕ} {l : List Span} → Steps text l last → (i : ℕ) → in_some i l ≡ false → get_or last i 0 ≡ get_or text i 0
unfolding in_some
steps_outside still i e = refl
steps_outside {last = last} (step {text = text} {s = s} {l = l} v r) i e = by (in_span i s) refl e (steps_outside r i)
  where
    by : (b : Bool) → in_span i s ≡ b → (b || in_some i l) ≡ false → (in_some i l ≡ false → get_or last i 0 ≡ get_or (overwritten s text) i 0) → get_or last i 0 ≡ get_or text i 0
    by true q e ih = let z : ◌≡◌ {A = ℕ} 0 1 = cc in absurd (omega arith)
    by false q e ih = ih e ∙ one_outside text s i q

steps_within : {text last : List ℕ} {l : List Span} → Steps text l last → AllWithin (length text) l
unfolding AllWithin
steps_within still = tt
steps_within (step {text = text} {s = s} {l = l} v r) =
    let m = hurt_span text s v in ((m.some, m.within), subst (λ (n : ℕ). AllWithin n l) (turn_length text s) (steps_within r))

-- ---- THE THEOREM: what a saved text is

pub record SavedFrom (text : List ℕ) (x : Saved) : Type 0 where
  pub means : Meaning
  pub accepts : meaning x.text ≡ given means
  pub same_length : length x.text ≡ length text
  pub inside : (i : ℕ) → i < length text → in_some i x.spans ≡ true → get_or x.text i 0 ≡ 32
  pub outside : (i : ℕ) → in_some i x.spans ≡ false → get_or x.text i 0 ≡ get_or text i 0
  pub within : AllWithin (length text) x.spans
  pub few : length x.spans ≤ length text
  pub steps : Steps text x.spans x.text

pub saved_from : (text : List ℕ) (x : Saved) → saving text ≡ given x → SavedFrom text x
saved_from text x e =
    let i : Ended text (given x) = subst (Ended text) e (saving_ends text) in
    let m = accepted_means x.text i.1 in
    record {
      means = m.0;
      accepts = m.1;
      same_length = steps_length i.0;
      inside = steps_inside i.0;
      outside = steps_outside i.0;
      within = steps_within i.0;
      few = omega (arith, steps_fewer i.0, inked_most text);
      steps = i.0;
    }

-- and beyond help: the last refusal, which overwrites nothing
pub record LastRefusal (text : List ℕ) (n p : ℕ) : Type 0 where
  pub spans : List Span
  pub last : List ℕ
  pub steps : Steps text spans last
  pub refuses : meaning last ≡ refused n p
  pub helpless : hurt last n p ≡ none

pub beyond_help_lem : (text : List ℕ) (n p : ℕ) → saving text ≡ refused n p → LastRefusal text n p
beyond_help_lem text n p e =
    let i : Ended text (refused n p) = subst (Ended text) e (saving_ends text) in
    let r = beyond_refuses i.1 n p i.3 in
    record { spans = i.0; last = i.1; steps = i.2; refuses = r.0; helpless = r.1 }

-- an accepted text is saved as it is
pub sound_stays : (text : List ℕ) (m : Meaning) → meaning text ≡ given m → saving text ≡ given (record { text = text; spans = [] })
sound_stays text m e = saving_accepted text (accepts_verdict text m e)

-- ---- why a span is overwritten

pub data Member (b : Block) : List Block → Type 0 where
  here : {bs : List Block} → Member b (b ∷ bs)
  there : {c : Block} {bs : List Block} → Member b bs → Member b (c ∷ bs)

pub data Why (text : List ℕ) (s : Span) : Type 0 where
  -- 4 to 14, 17 or 25 at a place in a block
  in_block_lem : (n p : ℕ) (b : Block) → meaning text ≡ refused n p → of_block n ≡ true → Member b (blocks text) → in_block p b ≡ true → b.span ≡ s → Why text s
  -- 15 at a listed name, whose `;` stands right behind it
  in_list : (p : ℕ) → meaning text ≡ refused not_defined p → ListedAt text p → entry (toks text p) ≡ some s → Why text s

found_member : (p : ℕ) (bs : List Block) (s : Span) → block_at p bs ≡ some s → (b : Block) × Member b bs × (in_block p b ≡ true) × (b.span ≡ s)
unfolding block_at
found_member p [] s e = let z : ◌≡◌ {A = ℕ} 0 1 = cc in absurd (omega arith)
found_member p (b ∷ bs) s e = by (in_block p b) refl e (found_member p bs s)
  where
    by : (t : Bool) → in_block p b ≡ t → ◌≡◌ {A = Option Span} (elim t [ true ↦ some b.span | false ↦ block_at p bs ]) (some s)
        → (block_at p bs ≡ some s → (c : Block) × Member c bs × (in_block p c ≡ true) × (c.span ≡ s)) → (c : Block) × Member c (b ∷ bs) × (in_block p c ≡ true) × (c.span ≡ s)
    by true q e ih = (b, here, q, cc)
    by false q e ih = let i = ih e in (i.0, there i.1, i.2, i.3)

pub why_hurt : (text : List ℕ) (s : Span) → verdict text ≡ hurt_in s → Why text s
unfolding hurt
why_hurt text s v = let r = hurt_refuses text s v in by r.number r.place r.refuses (of_block r.number) refl (eqb r.number not_defined) refl r.overwrites
  where
    by : (n p : ℕ) → meaning text ≡ refused n p → (x : Bool) → of_block n ≡ x → (y : Bool) → eqb n not_defined ≡ y
        → ◌≡◌ {A = Option Span} (elim x [ true ↦ block_at p (blocks text) | false ↦ elim y [ true ↦ entry (toks text p) | false ↦ none ] ]) (some s) → Why text s
    by n p m true f y g e = let i = found_member p (blocks text) s e in in_block_lem n p i.0 m f i.1 i.2 i.3
    by n p m false f true g e = let k : meaning text ≡ refused not_defined p = rw (eqb-true n not_defined g) at m in in_list p k (listed_place text p k) e
    by n p m false f false g e = let z : ◌≡◌ {A = ℕ} 0 1 = cc in absurd (omega arith)
