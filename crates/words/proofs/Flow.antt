-- How the promises of readers join. A refused cursor stays as it is, so that readers stand one behind the other without a test between them.
use Prim.Native.Nat.{ℕ, suc, ◌<◌}
use native.Mathlib.Omega.{arith}
use mathlib.Core.Path.{◌≡◌, refl, sym, ap, ◌∙◌}
use mathlib.Core.Bool.{Bool, true, false, cond, not, ◌&&◌}
use mathlib.Core.Option.{Option, none, some}
use mathlib.Core.List.{List}
use lib.Dec.{eqb, ltb}
use borrow.Author.Tests.{eq-eqb, ne_eqb, lt-ltb}
use Rattle.tokens.specs.Refusals.{not_here}
use Rattle.tokens.specs.Tokens.{Tok, Toks, stop, tok, toks, left}
use Rattle.meaning.specs.Reader.{Res, Reader, ok, refuse, after, ◌>>=◌, give, refuse_if, any, due_of}
use Rattle.meaning.specs.Names.{is_some, known}
use Rattle.meaning.proofs.Gives.{due_rest}
use Rattle.words.specs.Cursor.{ahead, stop_no, stream, Stands, alive, from, Goes, Checked, taking}
use Rattle.words.specs.declared.Cursor.{Cursor}

-- ---- a reader from a cursor on

pub from_on : {A : Type 0} (text : List ℕ) (c : Cursor) (m : Reader A) → alive c ≡ true → from text c m ≡ m (stream text c)
unfolding from
from_on text c m e = rw (e, from)

pub from_stop : {A : Type 0} (text : List ℕ) (c : Cursor) (m : Reader A) → alive c ≡ false → from text c m ≡ refuse c.no c.at
unfolding from
from_stop text c m e = rw (e, from)

after_from : {A B : Type 0} (text : List ℕ) (c : Cursor) (m : Reader A) (k : A → Reader B) → after (from text c m) k ≡ from text c (m >>= k)
unfolding from after ◌>>=◌
after_from {A} {B} text c m k = by (alive c)
  where
    by : (b : Bool) → ◌≡◌ {A = Res B} (after (elim b [ true ↦ m (stream text c) | false ↦ refuse c.no c.at ]) k)
        (elim b [ true ↦ after (m (stream text c)) k | false ↦ refuse c.no c.at ])
    by true = refl
    by false = refl

-- ---- one reader and then the next

-- nothing was read
pub given : {A : Type 0} {text : List ℕ} {c : Cursor} {a : A} → Goes text c (give a) c a
given = record { same = refl }

-- what follows a reader's answer follows the reader
pub follows : {A B : Type 0} {text : List ℕ} {c d : Cursor} {m : Reader A} {a : A} (k : A → Reader B)
    → Goes text c m d a → from text d (k a) ≡ from text c (m >>= k)
unfolding give after ◌>>=◌
follows {A} {B} {text} {c} {d} {m} {a} k e =
    sym (after_from text d (give a) k) ∙ ap (λ (x : Res A). after x k) e.same ∙ after_from text c m k

-- THE LAW: one reader, and then the next
pub then : {A B : Type 0} {text : List ℕ} {c d r : Cursor} {m : Reader A} {a : A} {b : B} (k : A → Reader B)
    → Goes text c m d a → Goes text d (k a) r b → Goes text c (m >>= k) r b
then k e f = record { same = f.same ∙ follows k e }

-- another answer that is the same where reading goes on
pub valued : {A : Type 0} {text : List ℕ} {c r : Cursor} {m : Reader A} {a b : A} → Goes text c m r a → (alive r ≡ true → a ≡ b) → Goes text c m r b
unfolding give
valued {A} {text} {c} {r} {m} {a} {b} e f = record { same = by (alive r) refl ∙ e.same }
  where
    by : (z : Bool) → alive r ≡ z → from text r (give b) ≡ from text r (give a)
    by true h = ap (λ (x : A). from text r (give x)) (sym (f h))
    by false h = from_stop text r (give b) h ∙ sym (from_stop text r (give a) h)

-- another reader that is the same where reading goes on
pub recast : {A : Type 0} {text : List ℕ} {c r : Cursor} {m k : Reader A} {a : A} → Goes text c m r a → (alive c ≡ true → m ≡ k) → Goes text c k r a
recast {A} {text} {c} {r} {m} {k} {a} g h = record { same = g.same ∙ by (alive c) refl }
  where
    by : (z : Bool) → alive c ≡ z → from text c m ≡ from text c k
    by true e = ap (λ (x : Reader A). from text c x) (h e)
    by false e = from_stop text c m e ∙ sym (from_stop text c k e)

-- another reader that does the same with all tokens
pub alike : {A : Type 0} {text : List ℕ} {c r : Cursor} {m k : Reader A} {a : A} → Goes text c m r a → ((ts : Toks) → m ts ≡ k ts) → Goes text c k r a
alike {A} {text} {c} {r} {m} {k} {a} g h = record { same = g.same ∙ by (alive c) refl }
  where
    by : (z : Bool) → alive c ≡ z → from text c m ≡ from text c k
    by true e = from_on text c m e ∙ h (stream text c) ∙ sym (from_on text c k e)
    by false e = from_stop text c m e ∙ sym (from_stop text c k e)

-- from a refused cursor every reader goes nowhere
pub stays : {A : Type 0} {text : List ℕ} {c : Cursor} {m : Reader A} {a : A} → alive c ≡ false → Goes text c m c a
unfolding give
stays {A} {text} {c} {m} {a} e = record { same = from_stop text c (give a) e ∙ sym (from_stop text c m e) }

-- whoever goes on at the end went on at the start, and the reader gave the answer and the tokens there
pub record Read {A : Type 0} (text : List ℕ) (c : Cursor) (m : Reader A) (r : Cursor) (a : A) : Type 0 where
  pub on : alive c ≡ true
  pub gave : m (stream text c) ≡ ok a (stream text r)

pub read : {A : Type 0} {text : List ℕ} {c r : Cursor} {m : Reader A} {a : A} → Goes text c m r a → alive r ≡ true → Read text c m r a
unfolding give
read {A} {text} {c} {r} {m} {a} g h = by (alive c) refl
  where
    by : (b : Bool) → alive c ≡ b → Read text c m r a
    by true e = record { on = e; gave = sym (sym (from_on text r (give a) h) ∙ g.same ∙ from_on text c m e) }
    by false e =
        let q : ok a (stream text r) ≡ refuse c.no c.at = sym (from_on text r (give a) h) ∙ g.same ∙ from_stop text c m e in
        let z : ◌≡◌ {A = ℕ} 0 1 = cc in
        absurd (omega arith)

pub alive_before : {A : Type 0} {text : List ℕ} {c r : Cursor} {m : Reader A} {a : A} → Goes text c m r a → alive r ≡ true → alive c ≡ true
alive_before g h = (read g h).on

-- a reader that answers leaves a cursor that goes on, behind what it took
pub record Went {A : Type 0} (text : List ℕ) (r : Cursor) (a b : A) (us : Toks) : Type 0 where
  pub on : alive r ≡ true
  pub is : a ≡ b
  pub behind : stream text r ≡ us

pub went : {A : Type 0} {text : List ℕ} {c r : Cursor} {m : Reader A} {a b : A} {us : Toks} → Goes text c m r a → alive c ≡ true
    → m (stream text c) ≡ ok b us → Went text r a b us
unfolding give
went {A} {text} {c} {r} {m} {a} {b} {us} g h e = by (alive r) refl
  where
    by : (x : Bool) → alive r ≡ x → Went text r a b us
    by true k =
        let q = sym (read g k).gave ∙ e in
        let o : a ≡ b = cc in
        let p : stream text r ≡ us = cc in
        record { on = k; is = o; behind = p }
    by false k =
        let q = sym (from_stop text r (give a) k) ∙ g.same ∙ from_on text c m h ∙ e in
        let z : ◌≡◌ {A = ℕ} 0 1 = cc in
        absurd (omega arith)

-- ---- tests that refuse

pub checked : {text : List ℕ} {c r : Cursor} {b q : Bool} {n p : ℕ} → Checked c b n p r → b ≡ q → eqb n 0 ≡ false
    → Goes text c (refuse_if q n p) r tt
unfolding refuse_if give
checked {text} {c} {r} {b} {q} {n} {p} e g h =
    record {
      same =
          ap (λ (x : Cursor). from text x (give tt)) e.is ∙ by (alive c) refl b
          ∙ ap (λ (x : Bool). from text c (refuse_if x n p)) g;
    }
  where
    refused : Cursor
    refused = record { no = n; fault = 0; at = p; end = 0 }

    by : (z : Bool) → alive c ≡ z → (b : Bool) → from text (cond (z && b) refused c) (give tt) ≡ from text c (refuse_if b n p)
    by true e true = from_stop text refused (give tt) h ∙ sym (from_on text c (refuse_if true n p) e)
    by true e false = from_on text c (give tt) e ∙ sym (from_on text c (refuse_if false n p) e)
    by false e b = from_stop text c (give tt) e ∙ sym (from_stop text c (refuse_if b n p) e)

-- what a test that did not refuse says
pub passed : {c r : Cursor} {b : Bool} {n p : ℕ} → Checked c b n p r → eqb n 0 ≡ false → alive r ≡ true → b ≡ false
passed {c} {r} {b} {n} {p} e h g = by (alive c) refl b (sym (ap (λ (x : Cursor). alive x) e.is) ∙ g)
  where
    by : (z : Bool) → alive c ≡ z → (b : Bool) → alive (cond (z && b) (record { no = n; fault = 0; at = p; end = 0 }) c) ≡ true → b ≡ false
    by true k true g = sym g ∙ h
    by true k false g = refl
    by false k b g = let w : true ≡ false = sym g ∙ k in let z : ◌≡◌ {A = ℕ} 0 1 = cc in absurd (omega arith)

-- refused, whatever the tokens
pub refused_by : {A : Type 0} {text : List ℕ} {c r : Cursor} {n p : ℕ} {a : A} → Checked c true n p r → eqb n 0 ≡ false
    → Goes text c (λ ts. refuse n p) r a
unfolding refuse_if ◌>>=◌ after give
refused_by {A} {text} {c} {r} {n} {p} {a} e z = then (λ u. give a) (checked {q = true} e refl z) given

pub refused_no : {c r : Cursor} {n p : ℕ} → Checked c true n p r → eqb n 0 ≡ false → alive r ≡ false
refused_no {c} {r} {n} {p} e z = by (alive r) refl
  where
    by : (b : Bool) → alive r ≡ b → b ≡ false
    by true h = passed e z h
    by false h = refl

-- what is known is the answer, and what is not is refused
pub known_or : {A : Type 0} {text : List ℕ} {c r : Cursor} {b : Bool} {n p : ℕ} {o : Option A} {a : A} → Checked c b n p r → b ≡ not (is_some o)
    → (alive r ≡ true → o ≡ some a) → eqb n 0 ≡ false → Goes text c (known o n p) r a
unfolding known is_some refuse_if ◌>>=◌ after give
known_or {A} {text} {c} {r} {b} {n} {p} {o} {a} e f g z = by o f g
  where
    by : (o : Option A) → b ≡ not (is_some o) → (alive r ≡ true → o ≡ some a) → Goes text c (known o n p) r a
    by none f g = then (λ u. give a) (checked {q = true} e f z) given
    by (some x) f g = valued (then (λ u. give x) (checked {q = false} e f z) given) (λ h. let q = g h in cc)

-- ---- the token ahead

pub stop_end : (c : Cursor) → c.fault ≡ 0 → stop_no c ≡ not_here
stop_end c e = rw (eq-eqb c.fault 0 e, stop_no)

pub stop_fault : (c : Cursor) → (c.fault ≡ 0 → ⊥) → stop_no c ≡ c.fault
stop_fault c e = rw (ne_eqb c.fault 0 e, stop_no)

-- a token ahead, and the tokens from its end on
pub stream_on : (text : List ℕ) (c : Cursor) → ltb c.at c.end ≡ true → stream text c ≡ tok (ahead text c) (toks text c.end)
unfolding stream
stream_on text c e = rw (e, stream)

-- none ahead
pub stream_stop : (text : List ℕ) (c : Cursor) → ltb c.at c.end ≡ false → stream text c ≡ stop (stop_no c) c.at
unfolding stream
stream_stop text c e = rw (e, stream)

module _ (text : List ℕ) (c : Cursor) (h : c.at < c.end) where
  pub token_here : stream text c ≡ tok (ahead text c) (toks text c.end)
  token_here = stream_on text c (lt-ltb c.at c.end h)

  -- behind it one less is left
  pub fewer : {d : Cursor} → Stands text c.end d → suc (left (stream text d)) ≡ left (stream text c)
  unfolding left
  fewer {d} s = ap (λ (ts : Toks). suc (left ts)) s.there ∙ sym (ap left token_here)

-- it is taken
pub taken : {text : List ℕ} {c r : Cursor} → alive c ≡ true → ltb c.at c.end ≡ true → Stands text c.end r → Goes text c any r (ahead text c)
unfolding any give
taken {text} {c} {r} e h s =
    let q : alive r ≡ true = ap (λ (n : ℕ). eqb n 0) s.on in
    record {
      same =
          from_on text r (give (ahead text c)) q ∙ ap (ok (ahead text c)) s.there
          ∙ sym (from_on text c any e ∙ ap any (stream_on text c h));
    }

-- behind a token that was due the text goes on from its end
pub behind_due : {text : List ℕ} {c r : Cursor} {p : ℕ} (w : List ℕ) → Goes text c (due_of w) r p → alive r ≡ true → stream text r ≡ toks text c.end
unfolding due_of any ◌>>=◌ after
behind_due {text} {c} {r} {p} w g h = by (ltb c.at c.end) refl (read g h).gave
  where
    by : (b : Bool) → ltb c.at c.end ≡ b → due_of w (stream text c) ≡ ok p (stream text r) → stream text r ≡ toks text c.end
    by true q e = due_rest w (ahead text c) (toks text c.end) (sym (ap (due_of w) (stream_on text c q)) ∙ e)
    by false q e =
        let o = sym (ap (due_of w) (stream_stop text c q)) ∙ e in
        let z : ◌≡◌ {A = ℕ} 0 1 = cc in
        absurd (omega arith)

-- none could be taken
pub halted : {text : List ℕ} {c : Cursor} {t : Tok} {n : ℕ} → alive c ≡ true → ltb c.at c.end ≡ false → stop_no c ≡ n → eqb n 0 ≡ false
    → Goes text c any (record { no = n; fault = 0; at = c.at; end = 0 }) t
unfolding any give
halted {text} {c} {t} {n} e h s z =
    record {
      same =
          from_stop text (record { no = n; fault = 0; at = c.at; end = 0 }) (give t) z
          ∙ sym (from_on text c any e ∙ ap any (stream_stop text c h ∙ ap (λ (k : ℕ). stop k c.at) s));
    }

-- it was tested ahead of its taking: the right one is taken, and what it tells is the answer
pub tested : {A : Type 0} {text : List ℕ} {c r : Cursor} (right : Bool) (test : Tok → Bool) (f : Tok → A)
    → Goes text c (taking right) r (ahead text c) → right ≡ test (ahead text c)
    → Goes text c (any >>= λ t. refuse_if (not (test t)) not_here t.at >>= λ u. give (f t)) r (f (ahead text c))
unfolding any refuse_if give after ◌>>=◌
tested {A} {text} {c} {r} right test f g e =
    record { same = (then (λ t. give (f t)) g given).same ∙ by (alive c) refl (ltb c.at c.end) refl }
  where
    before : Reader A
    before = taking right >>= λ t. give (f t)

    behind : Reader A
    behind = any >>= λ t. refuse_if (not (test t)) not_here t.at >>= λ u. give (f t)

    at : (b : Bool) → right ≡ b → test (ahead text c) ≡ b → before (tok (ahead text c) (toks text c.end)) ≡ behind (tok (ahead text c) (toks text c.end))
    at true p q = rw (p, q)
    at false p q = rw (p, q)

    by : (x : Bool) → alive c ≡ x → (y : Bool) → ltb c.at c.end ≡ y → from text c before ≡ from text c behind
    by false h y k = from_stop text c before h ∙ sym (from_stop text c behind h)
    by true h true k =
        from_on text c before h ∙ ap before (stream_on text c k) ∙ at right refl (sym e)
        ∙ sym (from_on text c behind h ∙ ap behind (stream_on text c k))
    by true h false k =
        from_on text c before h ∙ ap before (stream_stop text c k) ∙ sym (from_on text c behind h ∙ ap behind (stream_stop text c k))
