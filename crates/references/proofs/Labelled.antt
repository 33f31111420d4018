-- The X names of a body are labels: in the pass over the tokens each of them is due behind an X with which something begins.
use Prim.Native.Nat.{ℕ, ◌+◌, ◌*◌}
use mathlib.Core.Path.{◌≡◌, refl, sym, ap, ◌∙◌, subst}
use mathlib.Core.Bool.{Bool, true, false}
use mathlib.Core.Option.{Option, none, some, or_else}
use mathlib.Core.List.{List, [], ◌∷◌, ◌++◌}
use Rattle.tokens.specs.Written.{bytes, same, cases}
use Rattle.tokens.specs.Tokens.{Tok, Toks, stop, tok, toks}
use Rattle.tokens.proofs.Bools.{neither}
use Rattle.meaning.specs.Reader.{any, ahead_of}
use Rattle.meaning.specs.Names.{find, is_some}
use Rattle.meaning.specs.Body.{assigning, choosing, looped, shifted, entered, Body, done, vec, set', inner}
use Rattle.meaning.specs.Statements.{Env}
use Rattle.meaning.specs.Run.{cycles}
use Rattle.held.specs.Held.{Holds}
use Rattle.meaning.specs.Labels.{Here, begins, due, within, beginning, parting, labelling, behind, labelled, labels_from, labels, taken, used_by}
use Rattle.meaning.proofs.Others.{same_eq}
use Rattle.labels.specs.Table.{words_of, Gathers}
use Rattle.labels.proofs.Chains.{taken_number}
use Rattle.labels.proofs.Scanning.{behind_parting}
use Rattle.references.specs.References.{behind as rest, behind_head, behind_body, next_at, name_at, referred}
use Rattle.references.proofs.Filling.{find_append}
use Rattle.references.proofs.Behind.{behind_head_lem, behind_body_lem}
use Rattle.references.proofs.Parted.{Parted, here, later, head_parted, holds_parted}
use Rattle.references.proofs.Whole.{Labelled}

-- behind an X with which something begins a label is due
x_due : (v : List ℕ) → v ≡ bytes "X" → behind begins v ≡ due
unfolding behind parting labelling beginning bytes same cases
x_due v e = ap (behind begins) e

module _ (w : List ℕ) where
  -- none of these tokens is the word w
  abbrev NoneIs : List Tok → Type 0
  NoneIs [] = Unit {0}
  NoneIs (t ∷ l) = (same t.word w ≡ false) × NoneIs l

  -- ---- labels behind others

  not_labelled : (h : Here) (t : Tok) (l : List Tok) → NoneIs (labelled h t l) → NoneIs l
  unfolding labelled
  not_labelled begins t l n = n
  not_labelled due t l n = n.1
  not_labelled within t l n = n

  none_behind : {us ts : Toks} → Parted us ts → (h : Here) → NoneIs (labels_from h ts) → NoneIs (labels_from begins us)
  unfolding labels_from
  none_behind (here {t = t} {ts = ts} e) h n = subst (λ (k : Here). NoneIs (labels_from k ts)) (sym (behind_parting h t.word e)) (not_labelled h t _ n)
  none_behind (later {t = t} p) h n = none_behind p (behind h t.word) (not_labelled h t _ n)

  -- ---- the X names of a body

  both_none : (xs ys : List (Tok × ℕ)) → find xs w ≡ none → find ys w ≡ none → find (xs ++ ys) w ≡ none
  unfolding or_else
  both_none xs ys e f = find_append xs ys w ∙ ap (λ (o : Option ℕ). or_else o (find ys w)) e ∙ f

  -- the name behind an X is a label
  next_none : (n : ℕ) (ts : Toks) → NoneIs (labels_from due ts) → find (next_at n ts) w ≡ none
  unfolding labels_from labelled next_at find
  next_none n (stop m p) h = refl
  next_none n (tok t ts) h = ap (λ (b : Bool). elim b as (λ c. Option ℕ) [ true ↦ some n | false ↦ none ]) h.0

  name_none : (n : ℕ) (ts : Toks) → NoneIs (labels_from begins ts) → find (name_at n ts) w ≡ none
  unfolding name_at ahead_of any rest find labels_from labelled
  name_none n (stop m p) h = refl
  name_none n (tok x ts) h = by (same x.word (bytes "X")) refl
    where
      by : (b : Bool) → same x.word (bytes "X") ≡ b → find {A = ℕ} (elim b as (λ c. List (Tok × ℕ)) [ true ↦ next_at n ts | false ↦ [] ]) w ≡ none
      by true e = next_none n ts (subst (λ (k : Here). NoneIs (labels_from k ts)) (x_due x.word (same_eq x.word (bytes "X") e)) h)
      by false e = refl

  module _ (e : Env) where
    names_none : (ts : Toks) (b : Body) (us : Toks) (n : ℕ) → Holds e ts b us → NoneIs (labels_from begins ts) → find (referred e ts n b) w ≡ none
    unfolding Holds referred find
    names_none ts done us n x h = refl
    names_none ts (vec p a r) us n x h =
        ap (λ (vs : Toks). find (referred e vs (n + 1) r) w) (behind_head_lem e ts x.1) ∙ names_none x.0 r us (n + 1) x.2 (none_behind (head_parted e ts x.1) begins h)
    names_none ts (set' (assigning a) r) us n x h =
        both_none (name_at n ts) (referred e (behind_head e ts) n r) (name_none n ts h)
        (ap (λ (vs : Toks). find (referred e vs n r) w) (behind_head_lem e ts x.1) ∙ names_none x.0 r us n x.2 (none_behind (head_parted e ts x.1) begins h))
    names_none ts (set' (choosing k) r) us n x h =
        ap (λ (vs : Toks). find (referred e vs n r) w) (behind_head_lem e ts x.1) ∙ names_none x.0 r us n x.2 (none_behind (head_parted e ts x.1) begins h)
    names_none ts (inner (looped m) b r) us n x h =
        let k = none_behind (head_parted e ts x.2) begins h in
        ap (λ (vs : Toks). find (referred e vs n b ++ referred e (behind_body e vs b) (n + m * cycles 0 b) r) w) (behind_head_lem e ts x.2)
        ∙ ap (λ (ws : Toks). find (referred e x.0 n b ++ referred e ws (n + m * cycles 0 b) r) w) (behind_body_lem e x.0 b x.1 x.3)
        ∙ both_none (referred e x.0 n b) (referred e x.1 (n + m * cycles 0 b) r) (names_none x.0 b x.1 n x.3 k)
        (names_none x.1 r us (n + m * cycles 0 b) x.4 (none_behind (holds_parted e x.0 b x.1 x.3) begins k))
    names_none ts (inner shifted b r) us n x h =
        let k = none_behind (head_parted e ts x.2) begins h in
        ap (λ (vs : Toks). find (referred e (behind_body e vs b) n r) w) (behind_head_lem e ts x.2)
        ∙ ap (λ (ws : Toks). find (referred e ws n r) w) (behind_body_lem e x.0 b x.1 x.3)
        ∙ names_none x.1 r us n x.4 (none_behind (holds_parted e x.0 b x.1 x.3) begins k)
    names_none ts (inner (entered k t a) b r) us n x h =
        ap (λ (vs : Toks). find (referred e vs (n + cycles t b) r) w) (behind_head_lem e ts x.3)
        ∙ names_none x.0 r us (n + cycles t b) x.6 (none_behind (head_parted e ts x.3) begins h)

  -- ---- words that are not used

  none_used : (vs : List (List ℕ)) (l : List Tok) → taken (used_by vs l) w ≡ false → (taken vs w ≡ false) × NoneIs l
  unfolding used_by taken
  none_used vs [] e = (e, tt)
  none_used vs (t ∷ l) e =
      let i = none_used (t.word ∷ vs) l e in
      let n = neither (same t.word w) (taken vs w) i.0 in
      (n.1, (n.0, i.1))

-- THE LAW: behind a pass over the tokens in which no name is used twice, each X name of a body that is held where it began is in the table
pub names_labelled : {text : List ℕ} {from : ℕ} {burst places heads nexts : List ℕ} {count : ℕ} → Gathers text from burst places heads nexts count
    → (e : Env) (ts : Toks) (b : Body) (us : Toks) (n : ℕ) → toks text from ≡ ts → Holds e ts b us → Labelled text places count (referred e ts n b)
unfolding labels is_some
names_labelled {text} {from} {burst} {places} {heads} {nexts} {count} g e ts b us n p x = record {
  only = λ w q. (
      let free : taken (words_of text places count) w ≡ false = taken_number (words_of text places count) w ∙ ap is_some q in
      let all = none_used w [] (labels (toks text from)) (ap (λ (vs : List (List ℕ)). taken vs w) (sym g.words) ∙ free) in
      names_none w e ts b us n x (subst (λ (vs : Toks). NoneIs w (labels_from begins vs)) p all.1));
}
