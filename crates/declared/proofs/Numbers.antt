-- What is told of the declarations, from what reading them promises: a refusal as it is, or where the next token stands and how many there are.
use Prim.Native.Nat.{ℕ, ◌+◌, ◌*◌, ◌≤◌, ◌<◌}
use mathlib.Core.Path.{◌≡◌, refl, sym, ap, ◌∙◌}
use mathlib.Core.Bool.{Bool, true, false}
use mathlib.Core.Option.{none, some}
use mathlib.Core.List.{List, ◌++◌}
use lib.ListN.{length, get_or, replicate, drop}
use lib.Dec.{ltb}
use borrow.Author.Tests.{eq-eqb, ne_eqb, le-leb, lt-leb}
use Rattle.std.proofs.Common.{Option as Maybe, Result, Ok, Err}
use Rattle.tokens.specs.declared.Refusal.{Refusal}
use Rattle.tokens.specs.Tokens.{stop, tok, toks, fault_of}
use Rattle.meaning.specs.Bounds.{tables_most}
use Rattle.meaning.specs.Reader.{Res, give}
use Rattle.meaning.specs.Signals.{Names}
use Rattle.meaning.specs.Timing.{Tables}
use Rattle.words.proofs.Words.{zeros}
use Rattle.words.specs.Cursor.{ahead, stop_no, stream, Stands}
use Rattle.words.specs.declared.Cursor.{Cursor}
use Rattle.words.proofs.Flow.{from_on, from_stop}
use Rattle.signals.specs.Names.{names_most, places_length, Unchained, names_of}
use Rattle.signals.proofs.Tables.{names_length}
use Rattle.timing.specs.Marks.{table_size}
use Rattle.timing.specs.declared.Watch.{Watch}
use Rattle.timing.proofs.TableReading.{held_count}
use Rattle.declared.specs.Declarations.{declarations, Declares}
use Rattle.declared.specs.Numbers.{place_of, numbers_of, told_of, five_of, written}
use Rattle.declared.specs.declared.Told.{Told}

-- chains before any name is read
pub blank_chains : Unchained (replicate places_length 0)
blank_chains = record { none = λ h l. zeros places_length (names_most * 3 + h) }

-- marks of waveforms before any is read
pub blank_waves : (i : ℕ) → ◌≡◌ {A = ℕ} (get_or (replicate (tables_most * table_size) 0) i 0) 0
blank_waves = zeros (tables_most * table_size)

-- the token ahead stands where the cursor says
place_ahead : (text : List ℕ) (c : Cursor) → place_of (stream text c) ≡ c.at
unfolding place_of stream
place_ahead text c = by (ltb c.at c.end)
  where
    by : (b : Bool) → place_of (elim b [ true ↦ tok (ahead text c) (toks text c.end) | false ↦ stop (stop_no c) c.at ]) ≡ c.at
    by true = refl
    by false = refl

module _ {text : List ℕ} {c r : Cursor} {places lists tplaces waves : List ℕ} {signals names tables : ℕ} {w : Watch} {sight : Maybe ℕ}
    (s : Stands text 0 c) (d : Declares text c r places lists tplaces waves signals names tables w sight) where
  from_first_lem : {A : Res (Names × Names × Tables)} → Rattle.words.specs.Cursor.from text r (give (names_of text places lists signals, names_of text places lists names, d.it)) ≡ A
      → declarations (toks text 0) ≡ A
  from_first_lem e = ap declarations (sym s.there) ∙ sym (from_on text c declarations (eq-eqb c.no 0 s.on)) ∙ sym d.goes.same ∙ e

  -- a refusal is told as it is
  pub told_refused : (r.no ≡ 0 → ⊥) → Err (record { no = r.no; place = r.at }) ≡ numbers_of (declarations (toks text 0))
  unfolding numbers_of
  told_refused h = sym (ap numbers_of (from_first_lem (from_stop text r (give _) (ne_eqb r.no 0 h))))

  pub told_read : r.no ≡ 0 → Ok (record { place = r.at; signals = signals; names = names; tables = tables }) ≡ numbers_of (declarations (toks text 0))
  unfolding numbers_of give
  told_read h =
      let on = eq-eqb r.no 0 h in
      sym (ap numbers_of (from_first_lem (from_on text r (give _) on))
      ∙ rw (place_ahead text r, names_length text places lists signals, names_length text places lists names, held_count (d.held on)))

-- a text with a fault in its bytes, and one without
pub told_fault : (text : List ℕ) (r : Refusal) → some (r.no, r.place) ≡ fault_of text → Err r ≡ told_of text
unfolding told_of
told_fault text r e = rw (sym e, told_of)

pub told_clean : (text : List ℕ) → none ≡ fault_of text → numbers_of (declarations (toks text 0)) ≡ told_of text
unfolding told_of
told_clean text e = rw (sym e, told_of)

-- a buffer without room stays, and one with room has the numbers at its front
pub stays : (t : Result Told Refusal) (b : List ℕ) → length b < 5 → b ≡ written t b
unfolding written
stays t b h = rw (lt-leb 5 (length b) h, written)

pub fills : (t : Result Told Refusal) (b : List ℕ) → 5 ≤ length b → five_of t ++ drop 5 b ≡ written t b
unfolding written
fills t b h = rw (le-leb 5 (length b) h, written)
