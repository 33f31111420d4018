-- The meaning of a text, from what was decided and played: refused by 1 to 16, by 17, or accepted, with its counts and names.
use Prim.Native.Nat.{ℕ}
use mathlib.Core.Path.{◌≡◌, refl, sym, ap, ◌∙◌}
use mathlib.Core.Bool.{Bool, true, false}
use mathlib.Core.Option.{Option, none}
use mathlib.Core.List.{List}
use lib.ListN.{length}
use Rattle.std.specs.Prelude.{Some, None}
use Rattle.tokens.specs.Tokens.{Toks, toks}
use Rattle.meaning.specs.Refusals.{not_playable, across_edge}
use Rattle.meaning.specs.Reader.{ok}
use Rattle.meaning.specs.Body.{Body}
use Rattle.meaning.specs.Document.{Read, document}
use Rattle.meaning.specs.Edges.{first_in_run}
use Rattle.meaning.specs.Meaning.{Answer, given, refused, answering, firsts, ordered, meaning}
use Rattle.meaning.specs.Services.{Counts, counts, names_of}
use Rattle.meaning.proofs.Listed.{length_firsts}
use Rattle.words.specs.Table.{names}
use Rattle.signals.specs.Names.{list_at}
use Rattle.timing.specs.declared.Watch.{Watch}
use Rattle.bursts.proofs.Entries.{listed_length}
use Rattle.texts.specs.Texts.{Sound, sound, counts_of, played}
use Rattle.texts.specs.Tables.{Tabled, Found}
use Rattle.texts.specs.declared.Verdict.{Verdict}
use Rattle.texts.proofs.Meant.{meant}
use Rattle.texts.proofs.Sounds.{sound_runs}
use Rattle.texts.proofs.Deciding.{counted}
use Rattle.plays.specs.Run.{Runs}
use Rattle.verdicts.specs.Judged.{which_of}
use Rattle.verdicts.specs.Found.{meant_by, Unplayable, Crosses}
use Rattle.verdicts.specs.Judged.{numbered}
use Rattle.words.proofs.Names.{firsts_named}

-- 1 to 16 are the meaning's
pub meaning_refused : (text : List ℕ) {n p : ℕ} → sound text ≡ refused n p → meaning text ≡ refused n p
unfolding answering
meaning_refused text e = meant text ∙ ap (λ (a : Answer Sound). answering a played) e

module _ {w : Watch} {text places lists tplaces waves book rows list : List ℕ} {v : Verdict} (f : Found text w places lists tplaces waves book rows list v) where
  abbrev tabled : Tabled text places lists tplaces waves book rows list v.parts f.it.read
  tabled = f.tabled

  pub runs : Runs text places lists tplaces waves book rows list v.parts.known v.parts.signals v.parts.listed v.parts.patterns v.parts f.it.read f.it.run
  runs = record { tabled = tabled; known_is = refl; signals_is = refl; listed_is = refl; patterns_is = refl; run_is = (sound_runs text f.is).run_is }

  -- ---- 17 and 25

  meant_by_lem : meaning text ≡ played f.it
  unfolding answering
  meant_by_lem = meant text ∙ ap (λ (a : Answer Sound). answering a played) f.is

  pub meaning_failing : {at : ℕ} → Unplayable text places lists tplaces waves book rows list v (Some at) → meaning text ≡ refused not_playable at
  unfolding played
  meaning_failing p = meant_by_lem ∙ rw (p.decides f, played)

  module _ (p : Unplayable text places lists tplaces waves book rows list v None) where
    -- the signals by their names alone are as many
    as_many : {o : Option ℕ} → first_in_run f.it.read.tables (length f.it.read.signals) f.it.run ≡ o
        → first_in_run f.it.read.tables (length (firsts f.it.read.signals)) f.it.run ≡ o
    as_many e = ap (λ (n : ℕ). first_in_run f.it.read.tables n f.it.run) (length_firsts f.it.read.signals) ∙ e

    pub meaning_crossing : {at : ℕ} → Crosses text places lists tplaces waves book rows list v (Some at) → meaning text ≡ refused across_edge at
    unfolding played ordered
    meaning_crossing q = meant_by_lem ∙ rw (p.decides f, as_many (q.decides f), played, ordered)

    pub meaning_given : Crosses text places lists tplaces waves book rows list v None → meaning text ≡ given (meant_by f.it)
    unfolding played ordered
    meaning_given q = meant_by_lem ∙ rw (p.decides f, as_many (q.decides f), played, ordered)

  -- where every event lies within its own cycle no pair is out of order
  pub quiet_crosses : ((d : Read) (ts : Toks) → document (toks text 0) ≡ ok d ts → (n : ℕ) (run : Body) → first_in_run d.tables n run ≡ none)
      → Crosses text places lists tplaces waves book rows list v None
  quiet_crosses q = record { decides = λ g. (let r = sound_runs text g.is in q g.it.read r.rest r.read (length g.it.read.signals) g.it.run) }

  -- ---- the counts and the names

  signals_named : firsts f.it.read.signals ≡ firsts (names text places v.parts.signals)
  signals_named = ap firsts tabled.signals_are ∙ firsts_named (list_at lists) (names text places v.parts.signals)

  pub names_are : (b : Bool) → names_of (which_of b) (meant_by f.it) ≡ numbered b text places tplaces v.parts.signals v.parts.known.tables
  unfolding names_of
  names_are true = tabled.held.named
  names_are false = signals_named

  pub signals_counted : length (meant_by f.it).signals ≡ v.parts.signals
  signals_counted = ap length signals_named ∙ listed_length text places 0 v.parts.signals

  pub counts_met : counts (meant_by f.it) ≡ record {
    signals = v.parts.signals;
    tables = v.parts.known.tables;
    listed = v.parts.listed;
    cycles = v.total.cycles;
    size = v.total.size;
  }
  unfolding counts counts_of
  counts_met =
      let k = sym (counted f) in
      rw (signals_counted, ap (λ (c : Counts). c.tables) k, ap (λ (c : Counts). c.listed) k, ap (λ (c : Counts). c.cycles) k, ap (λ (c : Counts). c.size) k)
