-- In every body that is read, each Loop is plain: what is read where `#` may not stand holds none, for words are letters and digits;
-- and a Shift stands in no Loop.
use mathlib.Core.Path.{◌≡◌, refl, sym, subst}
use Prim.Native.Nat.{ℕ, zero, suc}
use native.Mathlib.Omega.{arith}
use mathlib.Core.Bool.{Bool, true, false, not, ◌&&◌}
use mathlib.Core.List.{List, [], ◌∷◌, ◌++◌}
use lib.Dec.{eqb}
use borrow.Author.Tests.{eqb-true}
use Rattle.tokens.specs.Bytes.{between, digit, letter}
use Rattle.tokens.specs.Tokens.{Tok}
use Rattle.meaning.specs.Reader.{is_word}
use Rattle.meaning.specs.Signals.{Names}
use Rattle.meaning.specs.Timing.{wave_char, all_chars}
use Rattle.meaning.specs.Body.{Assigns, mark, Kind, macro, procedure, Body, marked}
use Rattle.meaning.specs.Data.{chars_of, stretched, repeated, piece, part, data_read, paired, assign, assigns}
use Rattle.meaning.specs.Statements.{Decls, Env, Head, ends, vecs, sets, loops, shifts, uses, used, chosen, looping, shift_head, label_head, head, statements}
use Rattle.meaning.proofs.Gives.{Gives, gives_bind, gives_after, gives_give, gives_if, gives_choose, gives_closed, gives_until, gives_taken}
use Rattle.meaning.proofs.Choices.{gives_either, ◌also◌}
use Rattle.meaning.proofs.Turns.{Unmarked, Plain, Good}
use Rattle.meaning.proofs.Statements.{Kept, Deeper, gives_statements}
use Rattle.meaning.proofs.Everywhere.{Every, Known, every_name}

-- ---- characters free of `#`

abbrev Free : List ℕ → Type 0
Free [] = Unit {0}
Free (c ∷ cs) = (eqb c mark ≡ false) × Free cs

free-++ : (a b : List ℕ) → Free a → Free b → Free (a ++ b)
free-++ [] b h k = k
free-++ (c ∷ a) b h k = (h.0, free-++ a b h.1 k)

free_stretched : (n : ℕ) (cs : List ℕ) → Free cs → Free (stretched n cs)
unfolding stretched
free_stretched zero cs h = tt
free_stretched (suc n) cs h = free-++ cs (stretched n cs) h (free_stretched n cs h)

-- a letter or a digit is no `#`
pub free_char : (c : ℕ) → wave_char c ≡ true → eqb c mark ≡ false
unfolding wave_char letter digit between
free_char c h = by (eqb c mark) refl
  where
    by : (w : Bool) → eqb c mark ≡ w → w ≡ false
    by true e = let z : false ≡ true = subst (λ (x : ℕ). wave_char x ≡ true) (eqb-true c mark e) h in sym z
    by false e = refl

free_chars : (cs : List ℕ) → not (all_chars cs) ≡ false → Free cs
unfolding all_chars
free_chars [] h = tt
free_chars (c ∷ cs) h = by (wave_char c) refl h (free_chars cs)
  where
    by : (w : Bool) → wave_char c ≡ w → not (w && all_chars cs) ≡ false → (not (all_chars cs) ≡ false → Free cs) → Free (c ∷ cs)
    by true e h ih = (free_char c e, ih h)
    by false e h ih = let z : ◌≡◌ {A = ℕ} 0 1 = cc in absurd (omega arith)

-- ---- assignments without `#`

abbrev Clear : Assigns → Type 0
Clear a = marked a ≡ []

clear-++ : (a b : Assigns) → Clear a → Clear b → Clear (a ++ b)
unfolding marked
clear-++ [] b h k = k
clear-++ (x ∷ a) b h k = by (eqb x.1 mark) h (λ q. clear-++ a b q k)
  where
    by : (w : Bool) → ◌≡◌ {A = List ℕ} (elim w [ true ↦ x.0 ∷ marked a | false ↦ marked a ]) [] → (Clear a → Clear (a ++ b))
        → ◌≡◌ {A = List ℕ} (elim w [ true ↦ x.0 ∷ marked (a ++ b) | false ↦ marked (a ++ b) ]) []
    by true h ih = let z : ◌≡◌ {A = ℕ} 0 1 = cc in absurd (omega arith)
    by false h ih = ih h

clear_paired : (ss cs : List ℕ) → Free cs → Clear (paired ss cs)
unfolding marked paired
clear_paired [] cs h = refl
clear_paired (s ∷ ss) [] h = refl
clear_paired (s ∷ ss) (c ∷ cs) h = rw (h.0, marked) (clear_paired ss cs h.1)

-- ---- reading them

free_chars_of : (t : Tok) → Gives Free (chars_of t)
unfolding chars_of
free_chars_of t = gives_bind (λ u. not (all_chars t.word) ≡ false) Free _ _ (gives_if _ _ _) λ u h. gives_give Free _ (free_chars t.word h)

free_repeated : Gives Free repeated
unfolding repeated
free_repeated =
    gives_after Free _ _ λ t. gives_after Free _ _ λ n. gives_after Free _ _ λ u.
    gives_bind Free Free _ _ (free_chars_of u) λ cs h. gives_give Free _ (free_stretched n cs h)

free_piece : (t : Tok) → Gives Free (piece false t)
unfolding piece
free_piece t =
    gives_either Free (is_word t.word) _ _ (free_chars_of t) (gives_taken Free _ (
    (λ p. gives_bind (λ u. true ≡ false) Free _ _ (gives_if _ _ _) λ u h. let z : ◌≡◌ {A = ℕ} 0 1 = cc in absurd (omega arith))
    also (λ p. free_repeated)
    also tt) t)

free_part : (cs : List ℕ) → Free cs → Gives Free (part false cs)
unfolding part
free_part cs h = gives_after Free _ _ λ t. gives_bind Free Free _ _ (free_piece t) λ ds k. gives_give Free _ (free-++ cs ds h k)

free_data : Gives (λ x. Free x.0) (data_read false)
unfolding data_read
free_data = gives_closed Free ";" (part false) free_part [] tt

clear_assign : (ns : Names) (xs : Assigns) → Clear xs → Gives Clear (assign ns false xs)
unfolding assign
clear_assign ns xs h =
    gives_after Clear _ _ λ x. gives_after Clear _ _ λ u. gives_after Clear _ _ λ p.
    gives_bind (λ d. Free d.0) Clear _ _ free_data λ d k. gives_after Clear _ _ λ v.
    gives_give Clear _ (clear-++ xs _ h (clear_paired x.1 d.0 k))

clear_assigns : (ns : Names) → Gives Clear (assigns ns false)
unfolding assigns marked
clear_assigns ns = gives_after Clear _ _ λ p. gives_until Clear "}" (assign ns false) (clear_assign ns) [] refl

-- ---- statements: what stands in a macro or procedure itself, its own, may hold `#` and Shift

-- a head that leads to a sound body
abbrev Fine : Bool → Head → Type 0
Fine own ends = Unit {0}
Fine own (vecs p a) = own ≡ false → Clear a
Fine own (sets x) = Unmarked x
Fine own (loops n) = Unit {0}
Fine own shifts = own ≡ false → ⊥
Fine own (uses k x t a) = Good x.body

fine_vectors : (ns : Names) (own : Bool) → Gives (λ a. own ≡ false → Clear a) (assigns ns own)
fine_vectors ns own = record { all = λ ts a us q e. (clear_assigns ns).all ts a us (rw e at q) }

fine_used : (own : Bool) (k : Kind) (d : ℕ) (ns : Names) (l : Decls) → Every Good l → Gives (Fine own) (used k d ns l)
unfolding used
fine_used own k d ns l h =
    gives_bind (λ x. Good x.1.body) (Fine own) _ _ (every_name Good l h) λ x q. gives_after (Fine own) _ _ λ u.
    gives_after (Fine own) _ _ λ a. gives_after (Fine own) _ _ λ v. gives_give (Fine own) _ q

never_shift : (own seen : Bool) → not (own && not seen) ≡ false → own ≡ false → ⊥
never_shift true seen h e = let z : ◌≡◌ {A = ℕ} 0 1 = cc in omega arith
never_shift false seen h e = let z : ◌≡◌ {A = ℕ} 0 1 = cc in omega arith

fine_shift : (own seen : Bool) (d p : ℕ) → Gives (Fine own) (shift_head (own && not seen) d p)
unfolding shift_head
fine_shift own seen d p =
    gives_bind (λ u. not (own && not seen) ≡ false) (Fine own) _ _ (gives_if _ _ _) λ u h.
    gives_after (Fine own) _ _ λ v. gives_after (Fine own) _ _ λ q. gives_give (Fine own) shifts (never_shift own seen h)

fine_head : (e : Env) → Known Good e → (own : Bool) (d : ℕ) (seen : Bool) → Gives (Fine own) (head e own d seen)
unfolding head chosen looping label_head marked
fine_head e h own d seen = gives_choose F _ (
    (λ p. gives_bind (λ a. own ≡ false → Clear a) F _ _ (fine_vectors e.names own) λ a q. gives_give F _ q)
    also (λ p. gives_bind Clear F _ _ (clear_assigns e.names) λ a q. gives_give F _ q)
    also (λ p. gives_after F _ _ λ x. gives_after F _ _ λ q. gives_give F _ tt)
    also (λ p. gives_after F _ _ λ u. gives_after F _ _ λ n. gives_after F _ _ λ q. gives_give F _ tt)
    also (λ p. fine_used own macro d e.names e.macros h.0)
    also (λ p. fine_used own procedure d e.names e.procs h.1)
    also (λ p. gives_after F _ _ λ u. gives_after F _ _ λ t. gives_after F _ _ λ q. gives_give F _ refl)
    also (λ p. fine_shift own seen d p)
    also (λ p. gives_give F _ tt)
    also tt)
  where
    F : Head → Type 0
    F = Fine own

-- good, and plain where it is not a macro's or procedure's own
abbrev Sound : Bool → ℕ → Body → Type 0
Sound own d b = Good b × (own ≡ false → Plain b)

in_loop : (d : ℕ) (b : Body) → Deeper Sound d b → Good b × Plain b
in_loop zero b h = absurd h
in_loop (suc d) b h = (h.0, h.1 refl)

sound : (own : Bool) (d : ℕ) → Kept (Fine own) (Deeper Sound d) (Sound own d)
unfolding Good Plain
sound own d = record {
  end = (tt, λ o. tt);
  vector = λ p a r h q. (q.0, λ o. (h o, q.1 o));
  setting = λ x r h q. (q.0, λ o. (h, q.1 o));
  loop = λ n b r h c q. (let l = in_loop d b c in ((l.1, l.0, q.0), λ o. (l.1, q.1 o)));
  shift = λ p a r h q. ((tt, tt, q.0), λ o. absurd (h o));
  use' = λ k x t a r h q. ((tt, h, q.0), λ o. (tt, q.1 o));
}

read_sound : (e : Env) → Known Good e → (d : ℕ) (own : Bool) → Gives (Sound own d) (statements e d own)
read_sound e h = gives_statements (λ own d. Fine own) Sound sound e (fine_head e h)

-- THE LAWS: of declared bodies that are good, good ones are read; and where Loops' bodies and patterns stand, plain ones
pub read_good : (e : Env) → Known Good e → (d : ℕ) (own : Bool) → Gives Good (statements e d own)
read_good e h d own = record { all = λ ts b us q. ((read_sound e h d own).all ts b us q).0 }

pub read_plain : (e : Env) → Known Good e → (d : ℕ) → Gives Plain (statements e d false)
read_plain e h d = record { all = λ ts b us q. ((read_sound e h d false).all ts b us q).1 refl }
