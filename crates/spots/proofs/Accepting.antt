-- Timing of a text that was read: what stands before it is read as it was, so that its tables are read again and are the text's.
use Prim.Native.Nat.{ℕ, ◌≤◌}
use mathlib.Core.Path.{◌≡◌, refl, sym, ap, ap₂, ◌∙◌, subst}
use mathlib.Core.List.{List}
use Rattle.tokens.specs.Tokens.{Toks, toks}
use Rattle.meaning.specs.Bounds.{signals_most}
use Rattle.meaning.specs.Reader.{ok, ◌>>=◌, give, option}
use Rattle.meaning.specs.Signals.{Names, signals}
use Rattle.meaning.specs.Groups.{groups}
use Rattle.meaning.specs.Timing.{Tables, timing}
use Rattle.meaning.specs.Document.{Read, document}
use Rattle.meaning.specs.Meaning.{given, Meaning, meaning, firsts}
use Rattle.meaning.proofs.Gives.{bind_go}
use Rattle.meaning.proofs.Accepted.{accepted}
use Rattle.held.proofs.Rest.{moving, moves_leaves, moves_bind, moves_due, leaves_option}
use Rattle.held.proofs.Grammar.{moves_signals, moves_groups}
use Rattle.held.proofs.Places.{rest_stream}
use Rattle.held.proofs.Parts.{parts}
use Rattle.words.specs.declared.Cursor.{Cursor}
use Rattle.words.specs.Table.{names}
use Rattle.words.proofs.Names.{firsts_named}
use Rattle.words.proofs.Flow.{went}
use Rattle.signals.specs.Names.{list_at, names_of, front, Fronted}
use Rattle.signals.proofs.Tables.{known}
use Rattle.declared.proofs.Below.{tidy_below}
use Rattle.spots.specs.Answers.{Answers, Behind, Opens}
use Rattle.spots.specs.Spots.{Listed, signals_in}

-- Timing is read again from r on, over names whose signals have spots
pub record TimingRead (text : List ℕ) (d : Read) (r : Cursor) (places lists : List ℕ) (count names : ℕ) : Type 0 where
  pub rest : Toks
  pub answers : Answers text r (timing (names_of text places lists names)) d.tables rest
  pub listed : Listed lists names
  pub few : count ≤ signals_most
  pub signals_are : signals_in text places count ≡ firsts d.signals

-- THE LAW, of every text that was read
pub timing_read : {text : List ℕ} {c r : Cursor} {places lists : List ℕ} {count total : ℕ} (d : Read) (us : Toks) → document (toks text 0) ≡ ok d us
    → ((ts : Toks) → Opens text ts → Behind text c ts) → Fronted text c r places lists count total → TimingRead text d r places lists count total
unfolding front give
timing_read {text} {c} {r} {places} {lists} {count} {total} d us e o f =
    let p = (parts (toks text 0)).all d us e in
    let b = o p.signals_at (record { last = p.opening_end; read = p.opening_read }) in
    let fronted : front p.signals_at ≡ ok (d.signals, p.names) p.timing_at =
    bind_go signals (λ ss. option "SignalGroups" groups ss >>= λ ns. give (ss, ns)) p.signals_at d.signals p.groups_at p.signals_read
    ∙ bind_go (option "SignalGroups" groups d.signals) (λ ns. give (d.signals, ns)) p.groups_at p.names p.timing_at p.groups_read in
    let w = went f.goes b.on (ap front b.there ∙ fronted) in
    let x = rest_stream text ((moves_leaves (moves_bind _ _ (moves_due _) λ x. search moving)).rest _ _ _ p.opening_read) (0, refl) in
    let y = rest_stream text ((moves_leaves moves_signals).rest _ _ _ p.signals_read) x in
    let z = rest_stream text ((leaves_option "SignalGroups" groups (λ ns. moves_leaves (moves_groups ns)) _).rest _ _ _ p.groups_read) y in
    let k = known f w.on in
    record {
      rest = p.bodies_at;
      answers = record {
        on = w.on;
        placed = (z.0, w.behind ∙ z.1);
        gives = ap₂ (λ (ns : Names) (ts : Toks). timing ns ts) (ap (λ (q : Names × Names). q.1) w.is) w.behind ∙ p.timing_read;
      };
      listed = record { sized = f.sized.rows; below = λ i h. tidy_below _ k.few (k.tidy i h) };
      few = k.few;
      signals_are = sym (firsts_named (list_at lists) (names text places count)) ∙ ap (λ (q : Names × Names). firsts q.0) w.is;
    }

-- and of an accepted one
pub record TimingAt (text : List ℕ) (m : Meaning) (r : Cursor) (places lists : List ℕ) (count names : ℕ) : Type 0 where
  pub rest : Toks
  pub answers : Answers text r (timing (names_of text places lists names)) m.tables rest
  pub listed : Listed lists names
  pub few : count ≤ signals_most
  pub signals_are : signals_in text places count ≡ m.signals

pub timing_at : {text : List ℕ} {c r : Cursor} {places lists : List ℕ} {count total : ℕ} (m : Meaning) → meaning text ≡ given m → ((ts : Toks) → Opens text ts → Behind text c ts)
    → Fronted text c r places lists count total → TimingAt text m r places lists count total
timing_at {text} {c} {r} {places} {lists} {count} {total} m e o f =
    let a = accepted text m e in
    let x = timing_read a.doc a.rest a.read o f in
    record {
      rest = x.rest;
      answers = subst (λ (t : Tables). Answers text r (timing (names_of text places lists total)) t x.rest) a.tables x.answers;
      listed = x.listed;
      few = x.few;
      signals_are = x.signals_are ∙ a.signals;
    }
