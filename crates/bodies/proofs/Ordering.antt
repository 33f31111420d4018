-- MacroDefs and Procedures: one body after the other, each block at most once, in either order.
use Prim.Native.Nat.{ℕ}
use mathlib.Core.Path.{◌≡◌, refl, sym, ap, ◌∙◌}
use mathlib.Core.Bool.{Bool, true, false, not, ◌&&◌}
use mathlib.Core.List.{List}
use borrow.Author.Tests.{not-true, not-false}
use Rattle.tokens.specs.Written.{bytes}
use Rattle.tokens.specs.Tokens.{Toks}
use Rattle.tokens.proofs.Bools.{true_false}
use Rattle.meaning.specs.Reader.{Res, Reader, after, ◌>>=◌, give, ahead, ahead_of, due, if_ahead, option}
use Rattle.meaning.specs.Statements.{Env}
use Rattle.meaning.specs.Document.{macro_defs, procedures, bodies}
use Rattle.meaning.proofs.Takes.{Takes}
use Rattle.held.proofs.Rest.{moves_takes}
use Rattle.held.proofs.Grammar.{moves_macro, moves_procedure}
use Rattle.words.specs.declared.Cursor.{Cursor}
use Rattle.words.specs.Cursor.{alive, stream, from, Goes}
use Rattle.words.proofs.Flow.{from_on, from_stop, stays}
use Rattle.words.proofs.Choice.{there, missing}
use Rattle.timing.specs.Makes.{Makes, Brings}
use Rattle.timing.proofs.Making.{made, makes_bind, first, first_then}
use Rattle.noted.specs.Known.{Knows}
use Rattle.heads.specs.declared.Known.{Known}
use Rattle.bodies.specs.Blocks.{word_of, one_of, opening, block_of, Declared}

pub takes_one : (macros : Bool) (e : Env) → Takes (one_of macros e)
unfolding one_of
takes_one true e = moves_takes (moves_macro e)
takes_one false e = moves_takes (moves_procedure e)

-- what is read behind what was declared is declared behind all of it
module _ {text places lists tplaces book rows used : List ℕ} {known : Known} {N : Type 0} {e : Env} (h : Declared text places lists tplaces book rows known N used e)
    {book' rows' used' : List ℕ} {known' : Known} {c r : Cursor} {m : Reader Env} where
  pub declared_then : Makes text c m r (Declared text places lists tplaces book' rows' known' (Knows known.tables used e) used')
      → Makes text c m r (Declared text places lists tplaces book' rows' known' N used')
  declared_then f = made f.goes (λ live. record { describes = (f.held live).describes; knows = λ n. (f.held live).knows (h.knows n) })

-- a block that may be missing
module _ {text : List ℕ} {c : Cursor} {b : Bool} {P : Env → Type 0} (macros : Bool) (e : Env)
    (q : b ≡ (alive c && ahead_of (bytes (word_of macros)) (stream text c))) where
  pub block_there : {r : Cursor} → not b ≡ false → Makes text c (block_of macros e) r P → Makes text c (option (word_of macros) (block_of macros) e) r P
  block_there h m = made (there (word_of macros) (block_of macros) e q (not-false b h) m.goes) m.held

  pub block_missing : not b ≡ true → P e → Makes text c (option (word_of macros) (block_of macros) e) c P
  block_missing h p = made (missing (word_of macros) (block_of macros) e q (not-true b h)) (λ live. p)

-- the word and `{` are read
pub block_opened : {text : List ℕ} {c a r : Cursor} {p q : ℕ} (macros : Bool) (k : Reader Env) → Goes text c (due (word_of macros)) a p
    → Goes text a (due "{") r q → Brings text c (opening macros k) r k
block_opened macros k g h = first_then _ g (first _ h)

-- ---- in either order

-- the one whose word is ahead comes first; without MacroDefs ahead that is Procedures, which may be missing
both : Bool → Env → Reader Env
both macros e = option (word_of macros) (block_of macros) e >>= option (word_of (not macros)) (block_of (not macros))

either_order : (e : Env) (ts : Toks) (z : Bool) → ahead "MacroDefs" ts ≡ z → both z e ts ≡ bodies e ts
unfolding both bodies macro_defs procedures option if_ahead one_of ◌>>=◌ after
either_order e ts z q = by z q
  where
    picked : Bool → Res Env
    picked x =
        elim x [
          | true ↦ (macro_defs e >>= option "Procedures" procedures) ts
          | false ↦ (option "Procedures" procedures e >>= option "MacroDefs" macro_defs) ts
        ]

    by : (z : Bool) → ahead "MacroDefs" ts ≡ z → both z e ts ≡ picked (ahead "MacroDefs" ts)
    by true q =
        ap (λ (x : Bool). after (elim x [ true ↦ macro_defs e ts | false ↦ give e ts ]) (option "Procedures" procedures)) q ∙ ap picked (sym q)
    by false q = ap picked (sym q)

in_order_lem : (text : List ℕ) (c : Cursor) (e : Env) (z : Bool) → z ≡ (alive c && ahead_of (bytes "MacroDefs") (stream text c))
    → from text c (both z e) ≡ from text c (bodies e)
in_order_lem text c e z q = by (alive c) refl q
  where
    by : (x : Bool) → alive c ≡ x → z ≡ (x && ahead_of (bytes "MacroDefs") (stream text c)) → from text c (both z e) ≡ from text c (bodies e)
    by true k q = from_on text c _ k ∙ either_order e (stream text c) z (sym q) ∙ sym (from_on text c _ k)
    by false k q = from_stop text c _ k ∙ sym (from_stop text c _ k)

module _ {text : List ℕ} {c d : Cursor} {P Q : Env → Type 0} (z : Bool) (e : Env) (q : z ≡ (alive c && ahead_of (bytes "MacroDefs") (stream text c)))
    (m : Makes text c (option (word_of z) (block_of z) e) d Q) where
  pub both_blocks : {r : Cursor} → Makes text d (option (word_of (not z)) (block_of (not z)) m.it) r P → Makes text c (bodies e) r P
  unfolding both
  both_blocks n =
      let k = makes_bind (option (word_of (not z)) (block_of (not z))) m n in
      record { it = k.it; goes = record { same = k.goes.same ∙ in_order_lem text c e z q }; held = k.held }

  -- the first was refused
  pub block_refused : alive d ≡ false → Makes text c (bodies e) d P
  block_refused off = both_blocks (made {a = e} (stays off) (λ live. true_false live off))
