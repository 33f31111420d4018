-- An event as it is read: its time, its letters, `;`, and the two tests on them; and that each event takes a token.
use Prim.Native.Nat.{ℕ, suc, ◌≤◌, ◌<◌, min}
use native.Mathlib.Omega.{arith}
use mathlib.Core.Path.{◌≡◌, refl, sym, ap, ◌∙◌}
use mathlib.Core.Bool.{Bool, true, false, not, ◌&&◌}
use mathlib.Core.Option.{none, some}
use mathlib.Core.List.{List}
use lib.ListN.{length}
use lib.Dec.{eqb, leb}
use borrow.Author.Tests.{eqb-true, eqb-false, eq-eqb, ne_eqb, leb-true, leb-false, le-leb, lt-leb}
use Rattle.tokens.specs.Tokens.{Toks, left}
use Rattle.meaning.specs.Bounds.{entry_most}
use Rattle.meaning.specs.Refusals.{too_many, bad_waveform}
use Rattle.meaning.specs.Reader.{Res, Reader, ok, refuse, ◌>>=◌, refuse_if, due, ahead, give}
use Rattle.meaning.specs.Names.{known}
use Rattle.meaning.specs.Timing.{Event, Events, add_events, quoted, Signed, plus, minus, counted_most, time_of, signed_quoted, letters, spread, one_event, event}
use Rattle.meaning.proofs.Takes.{Takes, Keeps}
use Rattle.meaning.proofs.Taking.{takes_keeps, takes_due, takes_word, takes_bind, takes_ahead, keeps_bind, keeps_if, keeps_known, keeps_give, keeps_within}
use Rattle.meaning.proofs.Signs.{gives_signed}
use Rattle.words.specs.Cursor.{alive, stream, Goes, Checked}
use Rattle.words.specs.declared.Cursor.{Cursor}
use Rattle.words.proofs.Flow.{then, given, checked, passed, recast, stays, read, alive_before, refused_by, refused_no}
use Rattle.timing.specs.Makes.{Makes}
use Rattle.timing.specs.Events.{all_events, Lettered, Timed}
use Rattle.timing.proofs.Making.{either, if_yes, if_no, made}
use Rattle.timing.proofs.EventLetters.{takes_letters, gives_letters}

-- ---- the code's tests are the definition's

-- on the number of alternatives, of which the code counts one too many at most
pub same_counts : {n m : ℕ} {l es : List ℕ} → n ≤ entry_most → Lettered m l es
    → (not (eqb m 1) && not (eqb m n)) ≡ (not (eqb (length es) 1) && not (eqb (length es) n))
same_counts {n} {m} {l} {es} h a = ap (λ (b : Bool). not b && not (eqb m n)) (by 1 (omega arith)) ∙ ap (λ (b : Bool). not (eqb (length es) 1) && not b) (by n h)
  where
    by : (k : ℕ) → k ≤ entry_most → eqb m k ≡ eqb (length es) k
    by k h = cases (eqb (length es) k) refl
      where
        cases : (b : Bool) → eqb (length es) k ≡ b → eqb m k ≡ b
        cases true e = eq-eqb m k (omega (arith, a.count, eqb-true (length es) k e))
        cases false e = ne_eqb m k λ q. eqb-false (length es) k e (omega (arith, a.count))

-- on the number of events, of which the code counts as many as there may be
same_room : (p q : Bool) {x : Bool} (m : ℕ) {count : ℕ} → x ≡ (p && q) → count ≡ min entry_most m → (x && leb entry_most count) ≡ (p && (q && leb entry_most m))
same_room p q {x} m {count} e h = ap (λ (b : Bool). b && leb entry_most count) e ∙ assoc p q ∙ ap (λ (b : Bool). p && (q && b)) (by (leb entry_most m) refl)
  where
    assoc : (p q : Bool) → ((p && q) && leb entry_most count) ≡ (p && (q && leb entry_most count))
    assoc true q = refl
    assoc false q = refl

    by : (b : Bool) → leb entry_most m ≡ b → leb entry_most count ≡ b
    by true k = le-leb entry_most count (omega (arith, leb-true entry_most m k))
    by false k = lt-leb entry_most count (omega (arith, leb-false entry_most m k))

-- ---- `'T' E;`

module _ {text : List ℕ} {c d₁ d₂ d₃ d₄ : Cursor} {t n m : ℕ} {l : List ℕ} (s : Events) (small : n ≤ entry_most) (time : Goes text c signed_quoted d₁ t)
    (alts : Makes text d₁ letters d₂ (Lettered m l)) (end : Goes text d₂ (due ";") d₃ d₂.at)
    (many : Checked d₃ (not (eqb m 1) && not (eqb m n)) bad_waveform d₂.at d₄) where
  es : List ℕ
  es = alts.it

  counts : Goes text d₃ (refuse_if (not (eqb (length alts.it) 1) && not (eqb (length alts.it) n)) bad_waveform d₂.at) d₄ tt
  counts =
      recast (checked many refl refl)
      λ h. ap (λ (b : Bool). refuse_if b bad_waveform d₂.at) (same_counts small (alts.held (alive_before end h)))

  -- refused by then
  pub event_stops : {P : Events → Type 0} → alive d₄ ≡ false → Makes text c (one_event n s) d₄ P
  unfolding one_event
  event_stops h =
      made (then _ time (then _ alts.goes (then _ end (then _ counts (stays {a = s} h)))))
      λ k. let o : true ≡ false = sym k ∙ h in let z : ◌≡◌ {A = ℕ} 0 1 = cc in absurd (omega arith)

  module _ (on : alive d₄ ≡ true) where
    behind : alive d₃ ≡ true
    behind = alive_before counts on

    pub event_time : t ≤ counted_most
    event_time = gives_signed.all _ _ _ (read time (alive_before alts.goes (alive_before end behind))).gave

    pub event_letters : Lettered m l alts.it
    event_letters = alts.held (alive_before end behind)

    pub event_counts : (not (eqb m 1) && not (eqb m n)) ≡ false
    event_counts = passed many refl on

    pub event_all : all_events alts.it ≡ true
    event_all = gives_letters.all _ _ _ (read alts.goes (alive_before end behind)).gave

    -- the times rise
    pub event_rises : {count : ℕ} {least : List ℕ} {cs : List (List Event)} → add_events t (spread n alts.it) s.0 ≡ some cs → Timed n count least (cs, suc s.1)
        → Makes text c (one_event n s) d₄ (Timed n count least)
    unfolding one_event known give
    event_rises e h = made (then _ time (then _ alts.goes (then _ end (then _ counts (then _ (rw e given) given))))) (λ k. h)

    -- or it is refused
    pub event_refused : {r : Cursor} {P : Events → Type 0} → add_events t (spread n alts.it) s.0 ≡ none → Checked d₄ true bad_waveform d₂.at r → Makes text c (one_event n s) r P
    unfolding one_event known
    event_refused e k =
        made (then _ time (then _ alts.goes (then _ end (then _ counts (then {a = s.0} _ (rw e (refused_by k refl)) given)))))
        λ h. let o : true ≡ false = sym h ∙ refused_no k refl in let z : ◌≡◌ {A = ℕ} 0 1 = cc in absurd (omega arith)

-- ---- an event, unless it is one too many

-- a quote where there are as many events as there may be
abbrev quote_full : Events → Toks → Bool
quote_full s ts = ahead "'" ts && leb entry_most s.1

abbrev full : Reader Events
full = due "'" >>= λ p us. refuse too_many p

module _ {text : List ℕ} {c r : Cursor} {x : Bool} {n count : ℕ} {least : List ℕ} {s : Events} {P : Events → Type 0} (e : x ≡ (alive c && ahead "'" (stream text c)))
    (a : Timed n count least s) where
  pub event_full : {d : Cursor} → (x && leb entry_most count) ≡ true → Goes text c (due "'") d c.at → Checked d true too_many c.at r → Makes text c (event n s) r P
  unfolding event
  event_full h g k =
      made
      (if_yes (quote_full s) full (one_event n s) (same_room (alive c) (ahead "'" (stream text c)) s.1 e a.events) h
      (then {b = s} _ g (refused_by k refl)))
      λ q. let o : true ≡ false = sym q ∙ refused_no k refl in let z : ◌≡◌ {A = ℕ} 0 1 = cc in absurd (omega arith)

  pub event_more : (x && leb entry_most count) ≡ false → Makes text c (one_event n s) r P → Makes text c (event n s) r P
  unfolding event
  event_more h m =
      made (if_no (quote_full s) full (one_event n s) (same_room (alive c) (ahead "'" (stream text c)) s.1 e a.events) h m.goes) m.held

-- ---- an event takes a token

keeps_refuse : {A : Type 0} (n p : ℕ) → Keeps {A = A} (λ ts. refuse n p)
keeps_refuse n p = record { stays = λ ts a us e. (let z : ◌≡◌ {A = ℕ} 0 1 = cc in absurd (omega arith)) }

takes_either : {A : Type 0} (test : Toks → Bool) (m k : Reader A) → Takes m → Takes k → Takes (either test m k)
takes_either {A} test m k f g = record { falls = λ ts a us e. by ts a us (test ts) e }
  where
    by : (ts : Toks) (a : A) (us : Toks) (b : Bool) → ◌≡◌ {A = Res A} (elim b [ true ↦ m ts | false ↦ k ts ]) (ok a us) → left us < left ts
    by ts a us true e = f.falls ts a us e
    by ts a us false e = g.falls ts a us e

pub takes_quoted : (a : ℕ) → Takes (quoted a)
unfolding quoted
takes_quoted a =
    takes_bind _ _ (takes_due _) λ p. keeps_bind _ _ (takes_keeps takes_word) λ t. keeps_bind _ _ (keeps_within _ _ _ _) λ n. keeps_bind _ _ (takes_keeps (takes_due _)) λ q. keeps_give _

takes_time : (sign : ℕ → Signed) → Takes (time_of sign)
unfolding time_of
takes_time sign = takes_bind _ _ takes_word λ t. keeps_bind _ _ (keeps_within _ _ _ _) λ n. keeps_give _

takes_signed : Takes signed_quoted
unfolding signed_quoted
takes_signed =
    takes_bind _ _ (takes_due _) λ p.
    keeps_bind _ _ (takes_keeps (takes_ahead "-" _ _ (takes_bind _ _ (takes_due _) λ q. takes_keeps (takes_time minus)) (takes_time plus))) λ t.
    keeps_bind _ _ (takes_keeps (takes_due _)) λ q. keeps_give _

takes_one : (n : ℕ) (s : Events) → Takes (one_event n s)
unfolding one_event
takes_one n s =
    takes_bind _ _ takes_signed λ t. keeps_bind _ _ (takes_keeps takes_letters) λ es. keeps_bind _ _ (takes_keeps (takes_due _)) λ q. keeps_bind _ _ (keeps_if _ _ _) λ u. keeps_bind _ _ (keeps_known _ _ _) λ cs. keeps_give _

pub takes_event : (n : ℕ) (s : Events) → Takes (event n s)
unfolding event
takes_event n s = takes_either (quote_full s) full (one_event n s) (takes_bind _ _ (takes_due _) λ p. keeps_refuse too_many p) (takes_one n s)
