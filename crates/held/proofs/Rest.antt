-- What a reader leaves is a rest of what it was given, and mostly one behind a token: no reader makes up tokens.
use mathlib.Core.Path.{◌≡◌}
use Prim.Native.Nat.{ℕ, zero, suc, ◌≤◌, ◌<◌}
use Prim.Native.String.{String}
use native.Mathlib.Omega.{arith}
use mathlib.Core.Bool.{Bool, true, false, ◌&&◌}
use mathlib.Core.Option.{Option, none, some}
use mathlib.Core.List.{List, [], ◌∷◌}
use lib.Dec.{leb}
use Rattle.tokens.specs.Written.{bytes, same}
use Rattle.tokens.specs.Tokens.{Tok, Toks, stop, tok, left}
use Rattle.meaning.specs.Reader.{Reader, ok, refuse, ◌>>=◌, give, refuse_if, any, ahead, due_of, one_of, choose, word, if_ahead, option, while_f, while, closed, until}
use Rattle.meaning.specs.Names.{name, due_among, new_name, known, old_name, within, number_in}
use Rattle.meaning.proofs.Takes.{Takes, Keeps}
use Rattle.meaning.proofs.Gives.{bind_ok, give_ok, if_ok}

-- all of the tokens, or those behind some
pub data Rest : Toks → Toks → Type 0 where
  all : {ts : Toks} → Rest ts ts
  behind : {t : Tok} {us ts : Toks} → Rest us ts → Rest us (tok t ts)

pub rest_rest : {us vs ts : Toks} → Rest us vs → Rest vs ts → Rest us ts
rest_rest r all = r
rest_rest r (behind s) = behind (rest_rest r s)

-- a rest behind at least one token
abbrev pub Behind : Toks → Toks → Type 0
Behind us (stop n p) = ⊥
Behind us (tok t ts) = Rest us ts

behind_rest : (us ts : Toks) → Behind us ts → Rest us ts
behind_rest us (stop n p) h = absurd h
behind_rest us (tok t ts) h = behind h

rest_behind : (us vs ts : Toks) → Rest us vs → Behind vs ts → Behind us ts
rest_behind us vs (stop n p) r h = absurd h
rest_behind us vs (tok t ts) r h = rest_rest r h

behind_then : (us : Toks) {vs ts : Toks} → Behind us vs → Rest vs ts → Behind us ts
behind_then us h all = h
behind_then us {vs} h (behind r) = rest_rest (behind_rest us vs h) r

left_rest : {us ts : Toks} → Rest us ts → left us ≤ left ts
unfolding left
left_rest all = omega arith
left_rest (behind r) = let h = left_rest r in omega arith

left_behind_lem : (us ts : Toks) → Behind us ts → left us < left ts
unfolding left
left_behind_lem us (stop n p) h = absurd h
left_behind_lem us (tok t ts) h = let k = left_rest h in omega arith

-- a reader that leaves a rest
pub record Leaves {A : Type 0} (m : Reader A) : Type 0 where
  pub rest : (ts : Toks) (a : A) (us : Toks) → m ts ≡ ok a us → Rest us ts

-- one that takes a token
pub record Moves {A : Type 0} (m : Reader A) : Type 0 where
  pub rest : (ts : Toks) (a : A) (us : Toks) → m ts ≡ ok a us → Behind us ts

pub moves_leaves : {A : Type 0} {m : Reader A} → Moves m → Leaves m
moves_leaves h = record { rest = λ ts a us e. behind_rest us ts (h.rest ts a us e) }

pub leaves_keeps : {A : Type 0} {m : Reader A} → Leaves m → Keeps m
leaves_keeps h = record { stays = λ ts a us e. left_rest (h.rest ts a us e) }

pub moves_takes : {A : Type 0} {m : Reader A} → Moves m → Takes m
moves_takes h = record { falls = λ ts a us e. left_behind_lem us ts (h.rest ts a us e) }

pub moves_refuse : {A : Type 0} (n p : ℕ) → Moves {A = A} (λ ts. refuse n p)
moves_refuse n p = record { rest = λ ts a us e. (let z : ◌≡◌ {A = ℕ} 0 1 = cc in absurd (omega arith)) }

pub moves_any : Moves any
unfolding any
moves_any = record { rest = by }
  where
    by : (ts : Toks) (t : Tok) (us : Toks) → any ts ≡ ok t us → Behind us ts
    by (stop n p) t us e = let z : ◌≡◌ {A = ℕ} 0 1 = cc in absurd (omega arith)
    by (tok s ts) t us e = let q : ts ≡ us = cc in rw q all

pub leaves_give : {A : Type 0} (a : A) → Leaves (give a)
leaves_give a = record { rest = λ ts b us e. rw (give_ok e).1 all }

pub leaves_if : (c : Bool) (n p : ℕ) → Leaves (refuse_if c n p)
leaves_if c n p = record { rest = λ ts b us e. rw (if_ok c n p e) all }

module _ {A B : Type 0} (m : Reader A) (k : A → Reader B) where
  pub leaves_bind : Leaves m → ((a : A) → Leaves (k a)) → Leaves (m >>= k)
  leaves_bind h g = record {
    rest = λ ts b us e. (
        let i = bind_ok m k ts b us e in
        rest_rest ((g i.0).rest i.1 b us i.3) (h.rest ts i.0 i.1 i.2));
  }

  pub moves_bind : Moves m → ((a : A) → Leaves (k a)) → Moves (m >>= k)
  moves_bind h g = record {
    rest = λ ts b us e. (
        let i = bind_ok m k ts b us e in
        rest_behind us i.1 ts ((g i.0).rest i.1 b us i.3) (h.rest ts i.0 i.1 i.2));
  }

  pub leaves_moves : Leaves m → ((a : A) → Moves (k a)) → Moves (m >>= k)
  leaves_moves h g = record {
    rest = λ ts b us e. (
        let i = bind_ok m k ts b us e in
        behind_then us ((g i.0).rest i.1 b us i.3) (h.rest ts i.0 i.1 i.2));
  }

pub leaves_either : {A : Type 0} (c : Bool) (m k : Reader A) → Leaves m → Leaves k → Leaves {A = A} (λ ts. elim c [ true ↦ m ts | false ↦ k ts ])
leaves_either true m k f g = f
leaves_either false m k f g = g

pub moves_either : {A : Type 0} (c : Bool) (m k : Reader A) → Moves m → Moves k → Moves {A = A} (λ ts. elim c [ true ↦ m ts | false ↦ k ts ])
moves_either true m k f g = f
moves_either false m k f g = g

pub leaves_known : {A : Type 0} (o : Option A) (n p : ℕ) → Leaves (known o n p)
unfolding known give
leaves_known none n p = moves_leaves (moves_refuse n p)
leaves_known (some x) n p = leaves_give x

pub leaves_within : (a b : ℕ) (o : Option ℕ) (p : ℕ) → Leaves (within a b o p)
unfolding within give
leaves_within a b none p = moves_leaves (moves_refuse _ p)
leaves_within a b (some n) p = leaves_either (leb a n && leb n b) _ _ (leaves_give n) (moves_leaves (moves_refuse _ p))

-- ---- tokens, names, numbers

pub ruleset basic = (moves_leaves, moves_any, leaves_give, leaves_if, leaves_known, leaves_within, moves_bind, leaves_bind)

pub moves_due : (w : List ℕ) → Moves (due_of w)
unfolding due_of
moves_due w = search basic

pub moves_among : (ks : List String) → Moves (due_among ks)
unfolding due_among
moves_among ks = search basic

pub moves_word : Moves word
unfolding word
moves_word = search basic

pub moves_name : Moves name
unfolding name
moves_name = search (basic, moves_word)

pub moves_new : {A : Type 0} (used : List (Tok × A)) → Moves (new_name used)
unfolding new_name
moves_new used = search (basic, moves_name)

pub moves_old : {A : Type 0} (used : List (Tok × A)) → Moves (old_name used)
unfolding old_name
moves_old used = search (basic, moves_name)

pub moves_number : (a b : ℕ) → Moves (number_in a b)
unfolding number_in
moves_number a b = search (basic, moves_word)

-- what `search moving` finds
pub ruleset moving = (basic, moves_due, moves_among, moves_word, moves_name, moves_new, moves_old, moves_number)

-- ---- choices and loops

abbrev pub EachLeaves : {A : Type 0} → List (String × (ℕ → Reader A)) → Type 0
EachLeaves [] = Unit {0}
EachLeaves (x ∷ xs) = ((p : ℕ) → Leaves (x.1 p)) × EachLeaves xs

pub leaves_one_of : {A : Type 0} (xs : List (String × (ℕ → Reader A))) → EachLeaves xs → (t : Tok) → Leaves (one_of xs t)
unfolding one_of
leaves_one_of [] h t = moves_leaves (moves_refuse _ _)
leaves_one_of (x ∷ xs) h t = leaves_either (same t.word (bytes x.0)) (x.1 t.at) (one_of xs t) (h.0 t.at) (leaves_one_of xs h.1 t)

pub moves_choose : {A : Type 0} (xs : List (String × (ℕ → Reader A))) → EachLeaves xs → Moves (choose xs)
unfolding choose
moves_choose xs h = moves_bind _ _ moves_any (leaves_one_of xs h)

pub moves_ahead : {A : Type 0} (w : String) (m k : Reader A) → Moves m → Moves k → Moves (if_ahead w m k)
unfolding if_ahead
moves_ahead w m k f g = record { rest = λ ts. (moves_either (ahead w ts) m k f g).rest ts }

pub leaves_option : {S : Type 0} (w : String) (part : S → Reader S) → ((s : S) → Leaves (part s)) → (s : S) → Leaves (option w part s)
unfolding option if_ahead
leaves_option w part h s = record { rest = λ ts. (leaves_either (ahead w ts) _ _ (h s) (leaves_give s)).rest ts }

module _ {S : Type 0} (step : S → Reader S) (h : (s : S) → Leaves (step s)) where
  leaves_while_f : (test : Toks → Bool) (k : ℕ) (s : S) → Leaves (while_f test step k s)
  unfolding while_f give
  leaves_while_f test zero s = leaves_give s
  leaves_while_f test (suc k) s = record { rest = λ ts. (leaves_either (test ts) _ _ (leaves_bind _ _ (h s) (leaves_while_f test k)) (leaves_give s)).rest ts }

  pub leaves_while : (test : Toks → Bool) (s : S) → Leaves (while test step s)
  unfolding while
  leaves_while test s = record { rest = λ ts. (leaves_while_f test (suc (left ts)) s).rest ts }

  pub moves_closed : (w : String) (s : S) → Moves (closed w step s)
  unfolding closed
  moves_closed w s = leaves_moves _ _ (leaves_while _ s) λ x. moves_bind _ _ (moves_due _) λ p. leaves_give _

  pub moves_until : (w : String) (s : S) → Moves (until w step s)
  unfolding until
  moves_until w s = moves_bind _ _ (moves_closed w s) λ x. leaves_give _
