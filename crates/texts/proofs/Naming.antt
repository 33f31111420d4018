-- Each name of the patterns' name space once: behind PatternExec the tokens are the text's from some place on, so that the pass over the labels reads what the patterns' reader reads.
use Prim.Native.Nat.{ℕ, ◌≤◌}
use mathlib.Core.Path.{◌≡◌, refl, sym, ap, ◌∙◌, subst}
use mathlib.Core.Bool.{Bool, true, false, true≢false}
use mathlib.Core.List.{List}
use lib.Dec.{ltb}
use lib.ListN.{length}
use Rattle.tokens.specs.Refusals.{text_most}
use Rattle.tokens.specs.Tokens.{Toks}
use Rattle.meaning.specs.Reader.{Reader}
use Rattle.meaning.specs.Labels.{each_once}
use Rattle.meaning.specs.Statements.{Env, for_patterns}
use Rattle.held.proofs.Places.{Stream, rest_stream}
use Rattle.held.proofs.Rest.{Behind, Moves}
use Rattle.words.specs.declared.Cursor.{Cursor}
use Rattle.words.specs.Cursor.{alive, stream, Goes}
use Rattle.words.proofs.Flow.{read, stream_on, stream_stop}
use Rattle.labels.specs.Joined.{Joins}
use Rattle.labels.proofs.Joining.{goes_once, once_kept}
use Rattle.timing.specs.Watch.{Placed}
use Rattle.heads.specs.declared.Known.{Known}
use Rattle.heads.specs.Known.{Describes}
use Rattle.texts.specs.Patterns.{in_patterns}

-- behind a reader that takes a token
pub placed_behind : {A : Type 0} {text : List ℕ} {c r : Cursor} {m : Reader A} {a : A} → Moves m → Goes text c m r a → Placed text r
placed_behind {A} {text} {c} {r} {m} {a} h g = by (alive r) refl
  where
    there : (x : Bool) → ltb c.at c.end ≡ x → Behind (stream text r) (stream text c) → Stream text (stream text r)
    there true e b = rest_stream text (subst (λ (ts : Toks). Behind (stream text r) ts) (stream_on text c e) b) (c.end, refl)
    there false e b = absurd (subst (λ (ts : Toks). Behind (stream text r) ts) (stream_stop text c e) b)

    by : (x : Bool) → alive r ≡ x → Placed text r
    by false e = record { from = 0; there = λ live. absurd (true≢false (sym live ∙ e)) }
    by true e =
        let s = there (ltb c.at c.end) refl (h.rest (stream text c) a (stream text r) (read g e).gave) in
        record { from = s.0; there = λ live. s.1 }

module _ {text u : List ℕ} {s c r : Cursor} (w : List ℕ) (short : length text ≤ text_most) (p : Placed text s) (e : u ≡ w) (j : Joins text u s c r) where
  pub once_read : {A : Type 0} {m : Reader A} {a : A} → Goes text s m c a → Goes text s (each_once w m) r a
  once_read g = goes_once short p.from p.there g (subst (λ (v : List ℕ). Joins text v s c r) e j)

-- where it goes on, the patterns' reader did
pub once_alive : {text u : List ℕ} {s c r : Cursor} → length text ≤ text_most → Placed text s → Joins text u s c r → alive r ≡ true → alive c ≡ true
once_alive short p j live = ap (λ (k : Cursor). alive k) (sym (once_kept short p.from p.there j live)) ∙ live

-- what is declared, before a pattern's statements
pub describes_patterns : {text places lists tplaces book rows : List ℕ} {known : Known} {e : Env} → Describes text places lists tplaces book rows known e
    → Describes text places lists tplaces book rows (in_patterns known) (for_patterns e)
describes_patterns s = record {
  names_are = s.names_are;
  ready = s.ready;
  tables_are = s.tables_are;
  few_tables = s.few_tables;
  book_long = s.book_long;
  rows_long = s.rows_long;
  macros_counted = s.macros_counted;
  procs_counted = s.procs_counted;
  few_bodies = s.few_bodies;
  pattern_is = refl;
  macros_are = s.macros_are;
  procs_are = s.procs_are;
}
