-- The events of a waveform by its numbers: refused as the text is, none there, or read again where they stand.
use Prim.Native.Nat.{ℕ}
use native.Mathlib.Omega.{arith}
use mathlib.Core.Path.{◌≡◌, refl, sym, ◌∙◌}
use Rattle.std.specs.Prelude.{Some, None, Ok}
use mathlib.Core.Option.{Option, none, some}
use mathlib.Core.List.{List}
use lib.ListN.{length}
use Rattle.meaning.specs.Refusals.{no_such}
use Rattle.meaning.specs.Bounds.{entry_most}
use Rattle.meaning.specs.Timing.{Event}
use Rattle.meaning.specs.Meaning.{Answer, given, refused, answering, table_at, Meaning, meaning}
use Rattle.meaning.specs.Services.{wave_of, events_out, waveform}
use Rattle.waves.specs.Waves.{EntryAt, Reads}
use Rattle.waves.proofs.Entries.{entry_found}
use Rattle.waves.proofs.Fronts.{times_front, letters_front}
use Rattle.verdicts.specs.Judged.{Judges}
use Rattle.services.specs.Waveforms.{events_of, Outlines}
use Rattle.verdicts.specs.declared.Wanted.{Wanted}
use Rattle.verdicts.specs.declared.Judged.{Judged}
use Rattle.services.proofs.Answering.{answer_refused, answer_given}

-- the service is the events, and then 19
pub waveform_events : (text : List ℕ) (k s c : ℕ) (times letters : List ℕ) → waveform text k s c times letters ≡ answering (events_of text k s c) (λ es. events_out es times letters)
unfolding waveform events_of answering
waveform_events text k s c times letters = by (meaning text)
  where
    on : (o : Option (List Event)) → elim o [ none ↦ refused no_such 0 | some es ↦ events_out es times letters ]
        ≡ answering {A = List Event} (elim o [ none ↦ refused no_such 0 | some es ↦ given es ]) (λ es. events_out es times letters)
    on none = refl
    on (some es) = refl

    by : (a : Answer Meaning)
        → answering a (λ m. elim (wave_of s c (table_at m.tables k)) [ none ↦ refused no_such 0 | some es ↦ events_out es times letters ])
        ≡ answering (answering {B = List Event} a (λ m. elim (wave_of s c (table_at m.tables k)) [ none ↦ refused no_such 0 | some es ↦ given es ]))
        (λ es. events_out es times letters)
    by (given m) = on (wave_of s c (table_at m.tables k))
    by (refused n p) = refl

pub outline_refused : (text : List ℕ) (k s c : ℕ) {n p : ℕ} → meaning text ≡ refused n p → events_of text k s c ≡ refused n p
unfolding events_of
outline_refused text k s c e = sym (answer_refused text e _)

module _ {text : List ℕ} {w : Wanted} {r : Judged} (j : Judges text w (Ok r)) where
  seen : {o : Option (List Event)} → wave_of w.watch.signal w.watch.char (table_at j.0.tables w.watch.table) ≡ o
      → events_of text w.watch.table w.watch.signal w.watch.char ≡ elim o [ none ↦ refused no_such 0 | some es ↦ given es ]
  unfolding events_of
  seen e = answer_given j _ ∙ rw e

  pub outline_none : r.sight ≡ None → events_of text w.watch.table w.watch.signal w.watch.char ≡ refused no_such 0
  outline_none e = seen (j.2.watched.no e)

  module _ {at : ℕ} (e : r.sight ≡ Some at) where
    abbrev pub entry : (es : List Event) × EntryAt text at w.watch.char es
    entry = let f = j.2.watched.yes at e in (_, entry_found f f.wave)

    pub outline_read : {n : ℕ} {ts ts' ls ls' : List ℕ} → length ts ≡ entry_most → length ls ≡ entry_most → Reads entry.0 n ts ts' ls ls'
        → Outlines text w.watch.table w.watch.signal w.watch.char ts' ls' (Ok n)
    outline_read p q d = (
      entry.0,
      seen (j.2.watched.yes at e).wave,
      record {
        count_is = d.count;
        few = omega (arith, d.count, d.few);
        times_are = times_front d p;
        letters_are = letters_front d q;
      },
    )
