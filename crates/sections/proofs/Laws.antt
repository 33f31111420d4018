-- Bytes put into a page piece by piece: a section's first line, the names' lines, a refusal; and how long each is at most.
use Prim.Native.Nat.{ℕ, zero, suc, ◌+◌, ◌*◌, ◌≤◌, ◌<◌}
use native.Mathlib.Omega.{arith}
use native.Mathlib.Nat.{zero-add, add-zero}
use mathlib.Core.Path.{◌≡◌, sym, ap, ◌∙◌}
use mathlib.Core.List.{List, [], ◌∷◌, ◌++◌, append_assoc, append-nil}
use lib.ListN.{length, drop, take-append-drop}
use borrow.Author.Tests.{le-leb, lt-leb}
use Rattle.tokens.specs.Tokens.{Tok}
use Rattle.tokens.specs.Written.{bytes}
use Rattle.meaning.specs.Bounds.{name_most}
use Rattle.meaning.specs.Meaning.{firsts}
use Rattle.words.specs.Table.{name_of, names_from, names}
use Rattle.words.proofs.Names.{names_more, firsts_append}
use Rattle.columns.specs.Columns.{position}
use Rattle.pages.specs.Pages.{decimal, Puts}
use Rattle.pages.proofs.Laws.{puts_same, puts_both, decimal_short}
use Rattle.sections.specs.Listing.{listed_most, listed_of, unlisted_most, count_most, counted_of, counted, not_listed, sections_of, lines, line_most, position_line, refusal, Short, Fronts, Adds}

-- bytes put at a page's very front
pub at_front : {before after xs : List ℕ} {r : ℕ} → Puts before 0 xs r after → Fronts xs before r after
at_front {before} {after} {xs} {r} p =
    record { length_is = omega (arith, p.behind); page_is = p.page ∙ ap (λ (k : ℕ). xs ++ drop k before) (zero-add (length xs)) }

-- nothing yet
pub adds_none : (before : List ℕ) (at most : ℕ) → Adds before at [] most at before
adds_none before at most =
    let e : at + 0 ≡ at = add-zero at in
    record { puts = record { page = rw e (sym (take-append-drop at before)); behind = sym e }; within = omega arith }

-- ---- a section's first line

module _ {before p q s after : List ℕ} {at a b d r : ℕ} (word : List ℕ) (n : ℕ) where
  pub counted_adds : Puts before at word a p → Puts p a (32 ∷ []) b q → Puts q b (decimal n) d s → Puts s d (10 ∷ []) r after
      → Adds before at (counted_of word n) (length word + count_most) r after
  unfolding counted_of
  counted_adds e f g h =
      record {
        puts = puts_same (puts_both (puts_both (puts_both e f) g) h) (ap (λ (l : List ℕ). l ++ 10 ∷ []) (append_assoc word (32 ∷ []) (decimal n)));
        within = omega (arith, e.behind, f.behind, g.behind, h.behind, decimal_short n);
      }

-- ---- a line for each name

lines_more : (ts : List Tok) (t : Tok) → lines (ts ++ t ∷ []) ≡ lines ts ++ (t.word ++ 10 ∷ [])
unfolding lines
lines_more [] t = append-nil (t.word ++ 10 ∷ [])
lines_more (u ∷ ts) t =
    ap (λ (l : List ℕ). (u.word ++ 10 ∷ []) ++ l) (lines_more ts t) ∙ sym (append_assoc (u.word ++ 10 ∷ []) (lines ts) (t.word ++ 10 ∷ []))

module _ (text places : List ℕ) where
  -- the names up to number i
  abbrev pub lines_to : ℕ → List ℕ
  lines_to i = lines (firsts (names text places i))

  lines_next : (i : ℕ) → lines_to (i + 1) ≡ lines_to i ++ ((name_of text places i).word ++ 10 ∷ [])
  lines_next i =
      ap (λ (l : List (Tok × ℕ)). lines (firsts l)) (names_more text places i)
      ∙ ap lines (firsts_append (names text places i) (name_of text places i, i))
      ∙ lines_more (firsts (names text places i)) (name_of text places i)

  short_from : (i k n : ℕ) → Short (firsts (names_from text places i k)) → n < k → length (name_of text places (i + n)).word ≤ name_most
  unfolding Short firsts names_from
  short_from i zero n s h = absurd (omega arith)
  short_from i (suc k) zero s h = rw (add-zero i) s.0
  short_from i (suc k) (suc n) s h = let e : i + suc n ≡ suc i + n = omega arith in rw e (short_from (suc i) k n s.1 (omega arith))

  pub name_short : {count : ℕ} (i : ℕ) → Short (firsts (names text places count)) → i < count → length (name_of text places i).word ≤ name_most
  name_short {count} i s h = rw (zero-add i) at (short_from 0 count i s h)

  module _ {before page p after w : List ℕ} {at end a r : ℕ} where
    pub line_adds : (i : ℕ) → Adds before at (lines_to i) (i * line_most) end page → w ≡ (name_of text places i).word → length w ≤ name_most
        → Puts page end w a p → Puts p a (10 ∷ []) r after → Adds before at (lines_to (i + 1)) ((i + 1) * line_most) r after
    line_adds i d e s f g =
        record {
          puts = puts_same (puts_both d.puts (puts_both (puts_same f e) g)) (sym (lines_next i));
          within = omega (arith, d.within, f.behind, g.behind);
        }

  pub no_lines : (before : List ℕ) (at : ℕ) → Adds before at (lines_to 0) (0 * line_most) at before
  unfolding lines firsts names_from
  no_lines before at = adds_none before at (0 * line_most)

-- ---- rows that are not listed

module _ {n : ℕ} (h : listed_most < n) where
  pub none_listed : listed_of n ≡ 0
  unfolding listed_of
  none_listed = rw (lt-leb n listed_most h, listed_of)

  pub not_listed_lem : {before after : List ℕ} {at r : ℕ} → Puts before at (bytes "NOT LISTED\n") r after → Adds before at (not_listed n) unlisted_most r after
  unfolding not_listed bytes
  not_listed_lem p = record { puts = rw (lt-leb n listed_most h, not_listed) p; within = omega (arith, p.behind) }

module _ {n : ℕ} (h : n ≤ listed_most) where
  pub all_listed : listed_of n ≡ n
  unfolding listed_of
  all_listed = rw (le-leb n listed_most h, listed_of)

  pub not_replaced : (before : List ℕ) (at : ℕ) → Adds before at (not_listed n) unlisted_most at before
  unfolding not_listed
  not_replaced before at = rw (le-leb n listed_most h, not_listed) (adds_none before at unlisted_most)

-- ---- a refusal

pub position_is : (text : List ℕ) (p l c : ℕ) → l ≡ (position text p).line → c ≡ (position text p).column
    → (bytes " LINE " ++ decimal l) ++ ((bytes " COLUMN " ++ decimal c) ++ (10 ∷ [])) ≡ position_line text p
unfolding bytes position_line
position_is text p l c e f = rw (e, f) (simp append_assoc)

pub refusal_is : (text : List ℕ) (n p : ℕ) → (bytes "REFUSED " ++ decimal n) ++ ((bytes " AT " ++ decimal p) ++ position_line text p) ≡ refusal text n p
unfolding bytes refusal
refusal_is text n p = simp append_assoc

-- ---- all sections

module _ {before p q s t u after : List ℕ} {a b d e f r : ℕ} (signals tables : List Tok) (k l n : ℕ) where
  pub sections_put : Puts before 0 (counted "SIGNALS" k) a p → Puts p a (lines signals) b q → Puts q b (counted "TABLES" l) d s
      → Puts s d (lines tables) e t → Puts t e (counted "CYCLES" n) f u → Puts u f (not_listed n) r after
      → Fronts (sections_of signals tables k l n) before r after
  unfolding sections_of
  sections_put g h i j k' l' = at_front (puts_both (puts_both (puts_both (puts_both g h) (puts_both i j)) k') l')
