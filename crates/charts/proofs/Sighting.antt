-- The declarations of an accepted text, read once more: they are read as before, so that a waveform is watched in the text's own tables.
use Prim.Native.Nat.{ℕ}
use native.Mathlib.Omega.{arith}
use mathlib.Core.Path.{◌≡◌, refl, sym, ap, ◌∙◌, subst}
use mathlib.Core.Bool.{Bool, true, false}
use mathlib.Core.List.{List}
use borrow.Author.Tests.{eq-eqb}
use Rattle.std.proofs.Common.{Option as Maybe}
use Rattle.tokens.specs.Tokens.{Toks, toks}
use Rattle.meaning.specs.Reader.{Reader, ok, ◌>>=◌, give, option}
use Rattle.meaning.specs.Signals.{Names, signals}
use Rattle.meaning.specs.Groups.{groups}
use Rattle.meaning.specs.Timing.{Tables, timing}
use Rattle.meaning.specs.Document.{Read, document}
use Rattle.meaning.specs.Meaning.{given, table_at, Meaning, meaning}
use Rattle.meaning.proofs.Gives.{bind_go}
use Rattle.meaning.proofs.Accepted.{accepted}
use Rattle.held.proofs.Parts.{parts}
use Rattle.words.specs.Cursor.{alive, stream, Stands, Goes}
use Rattle.words.specs.declared.Cursor.{Cursor}
use Rattle.words.proofs.Flow.{from_on, from_stop, read}
use Rattle.signals.specs.Names.{front}
use Rattle.timing.specs.Watch.{Watched}
use Rattle.timing.specs.declared.Watch.{Watch}
use Rattle.declared.specs.Declarations.{version, declarations, Declares}
use Rattle.charts.specs.Serving.{Sights}

-- ---- the definition

-- what a text declares is read, and its tables are the text's
record Declaring (ts : Toks) (tabs : Tables) : Type 0 where
  names : Names × Names
  behind : Toks
  read : declarations ts ≡ ok (names.0, names.1, tabs) behind

declaring : (ts : Toks) {d : Read} {us : Toks} → document ts ≡ ok d us → Declaring ts d.tables
unfolding declarations version front give
declaring ts {d} {us} e =
    let p = (parts ts).all d us e in
    record {
      names = (d.signals, p.names);
      behind = p.bodies_at;
      read =
          bind_go version (λ v. front >>= λ f. timing f.1 >>= λ t. give (f.0, f.1, t)) ts p.opening_end p.signals_at p.opening_read
          ∙ bind_go front (λ f. timing f.1 >>= λ t. give (f.0, f.1, t)) p.signals_at (d.signals, p.names) p.timing_at
          (bind_go signals (λ ss. option "SignalGroups" groups ss >>= λ ns. give (ss, ns)) p.signals_at d.signals p.groups_at p.signals_read
          ∙ bind_go (option "SignalGroups" groups d.signals) (λ ns. give (d.signals, ns)) p.groups_at p.names p.timing_at p.groups_read)
          ∙ bind_go (timing p.names) (λ t. give (d.signals, p.names, t)) p.timing_at d.tables p.bodies_at p.timing_read;
    }

accepted_declaring : (text : List ℕ) (m : Meaning) → meaning text ≡ given m → Declaring (toks text 0) m.tables
accepted_declaring text m e = let a = accepted text m e in subst (Declaring (toks text 0)) a.tables (declaring (toks text 0) a.read)

-- ---- the code

-- where the definition's reader answers, the code's goes on, with the same answer
answers_same : {A : Type 0} {text : List ℕ} {c r : Cursor} {m : Reader A} {a b : A} {us : Toks} → Goes text c m r a → alive c ≡ true → m (stream text c) ≡ ok b us
    → (alive r ≡ true) × (a ≡ b)
unfolding give
answers_same {A} {text} {c} {r} {m} {a} {b} {us} g h e = by (alive r) refl
  where
    by : (x : Bool) → alive r ≡ x → (alive r ≡ true) × (a ≡ b)
    by true k = let q = sym (read g k).gave ∙ e in (k, cc)
    by false k =
        let q = sym (from_stop text r (give a) k) ∙ g.same ∙ from_on text c m h ∙ e in
        let z : ◌≡◌ {A = ℕ} 0 1 = cc in
        absurd (omega arith)

pub sighted : {text : List ℕ} {c r : Cursor} {places lists tplaces waves : List ℕ} {signals names tables : ℕ} {w : Watch} {sight : Maybe ℕ}
    → Stands text 0 c → Declares text c r places lists tplaces waves signals names tables w sight → Sights text w sight
sighted {text} {c} {r} {w = w} {sight = sight} s d =
    record {
      watched = λ m e. (
          let a = accepted_declaring text m e in
          let g = answers_same d.goes (eq-eqb c.no 0 s.on) (ap declarations s.there ∙ a.read) in
          let q : d.it ≡ m.tables = ap (λ (x : Names × Names × Tables). x.2) g.1 in
          subst (λ (t : Tables). Watched text w sight (table_at t w.table)) q (d.watched g.0));
    }
