-- The whole report: its parts one behind the other are what `reported` reads, and its records can be read again from where they begin.
use Prim.Native.Nat.{ℕ}
use mathlib.Core.Path.{◌≡◌, sym, ap, ◌∙◌}
use mathlib.Core.Bool.{true, false}
use mathlib.Core.Option.{none, some}
use mathlib.Core.List.{List, []}
use lib.Dec.{eqb}
use Rattle.tokens.specs.Tokens.{toks, fault_of}
use Rattle.meaning.specs.Reader.{give, until}
use Rattle.meaning.specs.Meaning.{refused}
use Rattle.words.specs.Cursor.{span, stream, Stands, alive, from, Goes}
use Rattle.words.specs.declared.Cursor.{Cursor}
use Rattle.words.proofs.Flow.{from_on, from_stop, given, then, read, alive_before}
use Rattle.reports.specs.Report.{Signals, Report, one_record, closing, report, read_as, reported}
use Rattle.reports.specs.Read.{Passes, Opens, Holds}
use Rattle.reports.specs.declared.Opened.{Opened}

pub faulty : (ss : Signals) (bs : List ℕ) {n p : ℕ} → fault_of bs ≡ some (n, p) → reported ss bs ≡ refused n p
unfolding reported
faulty ss bs e = rw (e, reported)

clean : (ss : Signals) (bs : List ℕ) → fault_of bs ≡ none → reported ss bs ≡ read_as (report ss (toks bs 0))
unfolding reported
clean ss bs e = rw (e, reported)

module _ (ss : Signals) {bs : List ℕ} {c b e : Cursor} {o : Opened} (sound : fault_of bs ≡ none) (stands : Stands bs 0 c) (opens : Opens bs c o)
    (passes : Passes bs o.cursor (until "}" (one_record ss) []) b) (closes : Goes bs b closing e tt) where
  abbrev is : Report
  is = record { pattern = record { at = o.at; word = span bs o.at o.end }; records = passes.it }

  all : Goes bs c (report ss) e is
  unfolding report
  all = then _ opens.goes (then _ passes.goes (then _ closes given))

  on : alive c ≡ true
  on = ap (λ (n : ℕ). eqb n 0) stands.on

  start : from bs c (report ss) ≡ report ss (toks bs 0)
  start = from_on bs c (report ss) on ∙ ap (report ss) stands.there

  pub stopped : alive e ≡ false → reported ss bs ≡ refused e.no e.at
  unfolding read_as
  stopped h = clean ss bs sound ∙ ap read_as (sym (sym (from_stop bs e (give is) h) ∙ all.same ∙ start))

  pub held : alive e ≡ true → Holds ss bs o.at o.end o.records
  unfolding read_as
  held h =
      let met = alive_before closes h in
      record {
        list = passes.it;
        behind = stream bs b;
        whole = clean ss bs sound ∙ ap read_as (ap (report ss) (sym stands.there) ∙ (read all h).gave);
        again = ap (until "}" (one_record ss) []) (sym (opens.there (alive_before passes.goes met))) ∙ (read passes.goes met).gave;
      }
