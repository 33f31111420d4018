-- A listed pattern that asks for nothing that isn't there plays, and behind it the rest of the run is left.
use Prim.Native.Nat.{ℕ, ◌+◌}
use native.Mathlib.Omega.{arith}
use mathlib.Core.Path.{◌≡◌, refl, sym, ◌∙◌}
use mathlib.Core.Bool.{true, false, true≢false}
use mathlib.Core.Option.{none}
use mathlib.Core.List.{List, [], ◌∷◌}
use lib.ListN.{length-replicate}
use Rattle.tokens.specs.Tokens.{Tok, Toks}
use Rattle.meaning.specs.Bounds.{depth_most}
use Rattle.meaning.specs.Lists.{has, inside}
use Rattle.meaning.specs.Timing.{Tables}
use Rattle.meaning.specs.Body.{listed, Body, done, outside, supplied}
use Rattle.meaning.specs.Run.{bare, start, entering}
use Rattle.meaning.specs.Meaning.{first_failing}
use Rattle.meaning.specs.Statements.{Decl, Decls, Env}
use Rattle.meaning.proofs.Turns.{Good}
use Rattle.turns.specs.Few.{play_few, open_most}
use Rattle.turns.proofs.Decides.{few_decides}
use Rattle.words.specs.Cursor.{stream, Stands}
use Rattle.words.specs.declared.Cursor.{Cursor}
use Rattle.measures.specs.Measures.{joined}
use Rattle.measures.specs.Book.{first_pattern, start_at, Entry}
use Rattle.plays.specs.Plays.{Ground, Summed}
use Rattle.plays.specs.Run.{ListedAt}
use Rattle.sums.specs.Parts.{Nothing, Alone, Cleared}
use Rattle.sums.proofs.Statements.{nothing_sums}
use Rattle.sums.proofs.Runs.{pattern_plays}
use Rattle.tallies.specs.Rows.{sum_at, Only}
use Rattle.grants.specs.declared.Tallied.{Tallied}
use Rattle.grants.specs.Grants.{pattern_row, Open, Standing, Sized, Gone, Roomy}
use Rattle.grants.proofs.Adding.{summed_only}

-- nothing is inside of none
inside_none : (l : List ℕ) → inside l (supplied []) ≡ true → l ≡ []
unfolding inside supplied has
inside_none [] h = refl
inside_none (x ∷ l) h = absurd (true≢false (sym h))

pub pattern_open : (marks : List ℕ) → Open depth_most marks pattern_row
pattern_open marks = record { within = omega arith; begun = λ b. absurd (omega arith) }

pub pattern_sized : {g : Ground} {marks sums sums₁ : List ℕ} → Roomy g marks sums → Only pattern_row sums sums₁ → Sized g depth_most pattern_row marks sums₁
pattern_sized {marks = marks} s o = record { marks_long = s.marks_long; sums_long = o.long ∙ s.sums_long; waves_long = s.waves_long; few = s.few; row = pattern_open marks }

module _ {g : Ground} {list : List ℕ} {patterns k : ℕ} {E : Env} {ps : Decls} {d : Decl} (n : ListedAt g list patterns k E ps d) where
  pub pattern_standing : {at : ℕ} {c : Cursor} (i : ℕ) {t : Tok} → Entry g.text g.book (first_pattern + i) (t, d) → Stands g.text at c → at ≡ start_at g.book (first_pattern + i)
      → Standing g (stream g.text c) depth_most E d.body n.stands.0
  pattern_standing {at} {c} i e s q = record {
    holding = n.holding;
    holds = rw (s.there, q, ← e.from) n.stands.1;
    deep = n.fits.deep;
    levels = omega arith;
    single = n.fits.single;
    good = n.fits.good;
  }

  module _ {marks marks₂ sums sums₁ sums₂ : List ℕ} {us : Toks} {x : Tallied} (o : Only pattern_row sums sums₁) (nothing : (n : ℕ) → Nothing n (sum_at sums₁ pattern_row))
      (y : Gone g E us pattern_row marks marks₂ sums₁ sums₂ d.body x) (u : Summed g marks sums E) where
    pattern_begun : Summed g marks sums₁ E
    pattern_begun = summed_only (pattern_open marks) o u

    pub pattern_summed : Summed g marks₂ sums₂ E
    pattern_summed = y.added.summed pattern_begun

    pub pattern_cleared : x.shifts ≡ false → Alone g.signals (sum_at sums₂ pattern_row) → Cleared E.tables g.signals d.body
    unfolding joined
    pattern_cleared e a = record {
      sum = sum_at sums₂ pattern_row;
      unmarked = inside_none (outside d.body) n.fits.fed;
      sums = y.added.sums_are pattern_begun done 0 (λ q. absurd (true≢false (sym q ∙ e))) (nothing_sums (nothing g.signals));
      alone = a;
    }

-- it plays where it is listed
pub cleared_plays : (tabs : Tables) (n : ℕ) {b : Body} → Good b → Cleared tabs n b → first_failing tabs (entering listed [] (play_few open_most 0 b) (start n)).1 ≡ none
unfolding entering bare start
cleared_plays tabs n {b} good x = (few_decides 0 b good _ tabs).1 ∙ rw (length-replicate {A = ℕ} n 0) (pattern_plays tabs n x)
