-- A line of an entry that was read, taken apart: what it adds to the events of each character, and what the code has of it.
use Prim.Native.Nat.{ℕ, zero, suc, ◌≤◌, ◌<◌}
use native.Mathlib.Omega.{arith}
use mathlib.Core.Path.{◌≡◌, refl, sym, ap, ◌∙◌, subst}
use mathlib.Core.Bool.{Bool, true, false, not, ◌&&◌}
use mathlib.Core.Option.{Option, none, some}
use mathlib.Core.List.{List, [], ◌∷◌, ◌++◌}
use lib.Dec.{eqb, leb}
use lib.ListN.{length, get_or}
use borrow.Author.Tests.{leb-false}
use Rattle.tokens.specs.Written.{bytes, same}
use Rattle.tokens.specs.Tokens.{Toks, stop, tok}
use Rattle.meaning.specs.Bounds.{entry_most}
use Rattle.meaning.specs.Refusals.{too_many}
use Rattle.meaning.specs.Reader.{Res, ok, refuse, ◌>>=◌, ahead_of, ahead, due}
use Rattle.meaning.specs.Timing.{Event, Events, signed_quoted, letters, spread, rises, add_events, one_event, event}
use Rattle.meaning.proofs.Gives.{bind_ok, give_ok, if_ok, gives_if, known_ok, known_rest, due_ahead}
use Rattle.meaning.proofs.Others.{same_eq}
use Rattle.words.specs.Cursor.{alive, stream, Goes}
use Rattle.words.specs.declared.Cursor.{Cursor}
use Rattle.words.proofs.Flow.{went}
use Rattle.timing.specs.Makes.{Makes}
use Rattle.timing.specs.Events.{Lettered}
use Rattle.timing.proofs.EventReading.{same_counts}
use Rattle.waves.specs.Waves.{Adds, OneEvent}

-- a quote is no closing brace
pub quote_ahead : (ts : Toks) → ahead "'" ts ≡ true → ahead "}" ts ≡ false
unfolding ahead_of same bytes
quote_ahead (stop n p) e = refl
quote_ahead (tok t ts) e = ap (λ (w : List ℕ). same w (bytes "}")) (same_eq t.word (bytes "'") e)

-- ---- the events of each character

-- one character's, and then those of the others
record Added (t e : ℕ) (es : List ℕ) (c : List Event) (cs ds : List (List Event)) : Type 0 where
  others : List (List Event)
  rest : add_events t es cs ≡ some others
  is : ds ≡ (c ++ record { time = t; letter = e } ∷ []) ∷ others

added : (t e : ℕ) (es : List ℕ) (c : List Event) (cs : List (List Event)) {ds : List (List Event)} → add_events t (e ∷ es) (c ∷ cs) ≡ some ds → Added t e es c cs ds
unfolding add_events
added t e es c cs {ds} h = by (rises t e c) (add_events t es cs) refl h
  where
    by : (x : Bool) (o : Option (List (List Event))) → add_events t es cs ≡ o
        → ◌≡◌ {A = Option (List (List Event))}
        (elim x [ false ↦ none | true ↦ elim o [ none ↦ none | some r ↦ some ((c ++ record { time = t; letter = e } ∷ []) ∷ r) ] ]) (some ds)
        → Added t e es c cs ds
    by false o q h = let z : ◌≡◌ {A = ℕ} 0 1 = cc in absurd (omega arith)
    by true none q h = let z : ◌≡◌ {A = ℕ} 0 1 = cc in absurd (omega arith)
    by true (some r) q h = record { others = r; rest = q; is = cc }

pub added_length : (t : ℕ) (es : List ℕ) (cs : List (List Event)) {ds : List (List Event)} → add_events t es cs ≡ some ds → length ds ≡ length cs
unfolding add_events
added_length t [] [] {ds} h = let q : ds ≡ [] = cc in ap length q
added_length t [] (c ∷ cs) h = let z : ◌≡◌ {A = ℕ} 0 1 = cc in absurd (omega arith)
added_length t (e ∷ es) [] h = let z : ◌≡◌ {A = ℕ} 0 1 = cc in absurd (omega arith)
added_length t (e ∷ es) (c ∷ cs) h = let a = added t e es c cs h in ap length a.is ∙ ap suc (added_length t es cs a.rest)

-- those of number i have the event with its letter behind
added_at : (t i : ℕ) (es : List ℕ) (cs : List (List Event)) {ds : List (List Event)} → add_events t es cs ≡ some ds → i < length cs
    → get_or ds i [] ≡ get_or cs i [] ++ record { time = t; letter = get_or es i 0 } ∷ []
unfolding add_events
added_at t i es [] h k = absurd (omega arith)
added_at t i [] (c ∷ cs) h k = let z : ◌≡◌ {A = ℕ} 0 1 = cc in absurd (omega arith)
added_at t zero (e ∷ es) (c ∷ cs) h k = ap (λ (ds : List (List Event)). get_or ds 0 []) (added t e es c cs h).is
added_at t (suc i) (e ∷ es) (c ∷ cs) h k =
    let a = added t e es c cs h in
    ap (λ (ds : List (List Event)). get_or ds (suc i) []) a.is ∙ added_at t i es cs a.rest (omega arith)

-- ---- a line

-- the time t and the letters es of a line that makes s' of s
pub record Line (n : ℕ) (s : Events) (ts : Toks) (s' : Events) (us : Toks) : Type 0 where
  pub t : ℕ
  pub es : List ℕ
  pub vs : Toks
  pub ws : Toks
  pub q : ℕ
  pub timed : signed_quoted ts ≡ ok t vs
  pub lettered : letters vs ≡ ok es ws
  pub ended : due ";" ws ≡ ok q us
  pub counts : (not (eqb (length es) 1) && not (eqb (length es) n)) ≡ false
  pub added : add_events t (spread n es) s.0 ≡ some s'.0
  pub lines : s'.1 ≡ suc s.1
  pub few : s.1 < entry_most
  pub quote : ahead "'" ts ≡ true

-- one too many would be refused
pub line : (n : ℕ) (s : Events) (ts : Toks) {s' : Events} {us : Toks} → event n s ts ≡ ok s' us → Line n s ts s' us
unfolding event one_event signed_quoted
line n s ts {s'} {us} e =
    let once = by (ahead "'" ts && leb entry_most s.1) refl e in
    let timed = bind_ok _ _ ts s' us once.0 in
    let lettered = bind_ok _ _ timed.1 s' us timed.3 in
    let ended = bind_ok _ _ lettered.1 s' us lettered.3 in
    let counted = bind_ok _ _ ended.1 s' us ended.3 in
    let known' = bind_ok _ _ counted.1 s' us counted.3 in
    let given = give_ok known'.3 in
    let quote = due_ahead (bytes "'") ts _ _ (bind_ok _ _ ts timed.0 timed.1 timed.2).2 in
    let behind : ended.1 ≡ us = if_ok _ _ _ counted.2 ∙ known_rest _ _ _ counted.1 known'.2 ∙ given.1 in
    record {
      t = timed.0;
      es = lettered.0;
      vs = timed.1;
      ws = lettered.1;
      q = ended.0;
      timed = timed.2;
      lettered = lettered.2;
      ended = ended.2 ∙ ap (ok ended.0) behind;
      counts = (gives_if _ _ _).all _ _ _ counted.2;
      added = known_ok _ _ _ _ known'.2 ∙ ap (λ (x : Events). some x.0) given.0;
      lines = sym (ap (λ (x : Events). x.1) given.0);
      few = leb-false entry_most s.1 (sym (ap (λ (x : Bool). x && leb entry_most s.1) quote) ∙ once.1);
      quote = quote;
    }
  where
    by : (x : Bool) → (ahead "'" ts && leb entry_most s.1) ≡ x
        → ◌≡◌ {A = Res Events} (elim x [ true ↦ (due "'" >>= λ p us. refuse too_many p) ts | false ↦ one_event n s ts ]) (ok s' us)
        → (one_event n s ts ≡ ok s' us) × ((ahead "'" ts && leb entry_most s.1) ≡ false)
    by true q h = let x = (bind_ok _ _ ts s' us h).3 in let z : ◌≡◌ {A = ℕ} 0 1 = cc in absurd (omega arith)
    by false q h = (h, q)

-- ---- what the code has of it

pub event_adds : {text : List ℕ} {c d e r : Cursor} {t m i x p : ℕ} {l : List ℕ} → Goes text c signed_quoted d t → Makes text d letters e (Lettered m l)
    → Goes text e (due ";") r p
    → ((n : ℕ) (es : List ℕ) → n ≤ entry_most → Lettered m l es → (not (eqb m 1) && not (eqb m n)) ≡ false → i < n → x ≡ get_or (spread n es) i 0)
    → OneEvent text c i (record { cursor = r; time = t; letter = x })
event_adds {text} {c} {d} {e} {r} {t} {m} {i} {x} {p} {l} time alts end letter =
    record { adds = λ on n s s' us few below chars h. by on n s s' us few below chars (line n s (stream text c) h) }
  where
    by : alive c ≡ true → (n : ℕ) (s s' : Events) (us : Toks) → n ≤ entry_most → i < n → length s.0 ≡ n → Line n s (stream text c) s' us
        → Adds text i s s' us (record { cursor = r; time = t; letter = x })
    by on n s s' us few below chars a =
        let w₁ = went time on a.timed in
        let w₂ = went alts.goes w₁.on (ap letters w₁.behind ∙ a.lettered) in
        let w₃ = went end w₂.on (ap (due ";") w₂.behind ∙ a.ended) in
        let held = subst (Lettered m l) w₂.is (alts.held w₂.on) in
        let own = letter n a.es few held (same_counts few held ∙ a.counts) below in
        record {
          on = w₃.on;
          behind = w₃.behind;
          is =
              added_at a.t i (spread n a.es) s.0 a.added (omega arith)
              ∙ ap (λ (e : Event). get_or s.0 i [] ++ e ∷ []) (rw (w₁.is, own));
        }
