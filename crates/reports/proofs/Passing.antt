-- Loops that read what they do not keep: there is always something that was read so far, and reading on from it is reading the whole.
use Prim.Native.Nat.{ℕ, ◌≤◌}
use Prim.Native.String.{String}
use mathlib.Core.Path.{◌≡◌}
use mathlib.Core.Bool.{Bool, true, false, not, ◌&&◌}
use mathlib.Core.List.{List, [], ◌∷◌, ◌++◌}
use Rattle.tokens.specs.Written.{bytes}
use Rattle.tokens.specs.Tokens.{Tok, Toks, left}
use Rattle.meaning.specs.Reader.{Res, Reader, ok, ahead as ahead_is, ahead_of, due, if_ahead, while, until}
use Rattle.meaning.proofs.Takes.{Takes, Keeps}
use Rattle.meaning.proofs.Taking.{taking, takes_word, takes_keeps, takes_bind, keeps_bind, keeps_give, keeps_within, takes_until}
use Rattle.words.specs.Cursor.{stream, alive, Goes}
use Rattle.words.specs.declared.Cursor.{Cursor}
use Rattle.words.proofs.Flow.{given, then}
use Rattle.words.proofs.Loops.{Leads, turned, over, ends}
use Rattle.reports.specs.Report.{Offset, Record, Signals, state, offset, one_more, head, one_record}
use Rattle.reports.specs.Read.{Passes}

-- ---- a turn takes a token

module _ {A : Type 0} (w : String) (m k : Reader A) where
  keeps_ahead : Keeps m → Keeps k → Keeps (if_ahead w m k)
  unfolding if_ahead
  keeps_ahead f g = record { stays = λ ts a us e. by ts a us (ahead_is w ts) e }
    where
      by : (ts : Toks) (a : A) (us : Toks) (b : Bool) → ◌≡◌ {A = Res A} (elim b [ true ↦ m ts | false ↦ k ts ]) (ok a us) → left us ≤ left ts
      by ts a us true e = f.stays ts a us e
      by ts a us false e = g.stays ts a us e

keeps_state : Keeps state
unfolding state
keeps_state = search taking depth 16 fits 4000

takes_offset : Takes offset
unfolding offset
takes_offset =
    takes_bind _ _ takes_word λ t.
    keeps_bind _ _ (keeps_within _ _ _ _) λ n.
    keeps_bind _ _ (keeps_ahead _ _ _ keeps_state (keeps_give _)) λ l.
    keeps_give _

pub takes_more : (l : List Offset) → Takes (one_more l)
unfolding one_more
takes_more l = takes_bind _ _ takes_offset λ o. keeps_give _

takes_head : (ss : Signals) → Takes (head ss)
unfolding head
takes_head ss = search taking depth 16 fits 4000

pub takes_record : (ss : Signals) (l : List Record) → Takes (one_record ss l)
unfolding one_record
takes_record ss l = takes_bind _ _ (takes_head ss) λ h. keeps_bind _ _ (takes_keeps (takes_until ";" one_more takes_more [])) λ os. keeps_give _

-- ---- the loops

-- reading m from c has come to r, with something read so far
pub record On {S : Type 0} (text : List ℕ) (c : Cursor) (m : Reader S) (close : List ℕ) (step : S → Reader S) (r : Cursor) : Type 0 where
  pub so_far : S
  pub leads : Leads text c m r (while (λ ts. not (ahead_of close ts)) step so_far)

module _ {S : Type 0} {text close : List ℕ} {c r : Cursor} {m : Reader S} {step : S → Reader S} (takes : (s : S) → Takes (step s)) where
  pub turn : {r' : Cursor} {b : Bool} → On text c m close step r → b ≡ (alive r && not (ahead_of close (stream text r))) → b ≡ true
      → ((s : S) → Passes text r (step s) r') → On text c m close step r'
  turn o e h g = record { so_far = (g o.so_far).it; leads = turned _ step takes o.leads e h (g o.so_far).goes }

-- the closing token ends it
pub closing_token : {S : Type 0} {text : List ℕ} {c d r : Cursor} {p : ℕ} {b : Bool} (close : String) (step : S → Reader S) (s : S) → ((x : S) → Takes (step x))
    → On text c (while (λ ts. not (ahead_of (bytes close) ts)) step s) (bytes close) step d
    → b ≡ (alive d && not (ahead_of (bytes close) (stream text d))) → b ≡ false → Goes text d (due close) r p → Passes text c (until close step s) r
closing_token close step s takes o e h g = record { it = o.so_far; goes = ends close step s (over _ step takes o.leads e h) g }

-- ---- what a turn of each reads

pub more_goes : {text : List ℕ} {c r : Cursor} {o : Offset} → Goes text c offset r o → (l : List Offset) → Goes text c (one_more l) r (l ++ o ∷ [])
unfolding one_more
more_goes g l = then _ g given

pub record_passes : {text : List ℕ} {c d r : Cursor} {x : Tok × ℕ} {os : List Offset} (ss : Signals) → Goes text c (head ss) d x
    → Goes text d (until ";" one_more []) r os → (l : List Record) → Passes text c (one_record ss l) r
unfolding one_record
record_passes {x = x} {os = os} ss g p l =
    record { it = l ++ record { reference = x.0; signal = x.1; offsets = os } ∷ []; goes = then _ g (then _ p given) }
