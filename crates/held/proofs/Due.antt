-- A token that was due stands there, and the head that it begins is read.
use mathlib.Core.Path.{◌≡◌}
use Prim.Native.Nat.{ℕ}
use native.Mathlib.Omega.{arith}
use mathlib.Core.Bool.{true}
use mathlib.Core.List.{List}
use borrow.Author.Tests.{not-false}
use Rattle.tokens.specs.Written.{bytes, same}
use Rattle.tokens.specs.Tokens.{Tok, Toks, stop, tok}
use Rattle.meaning.specs.Reader.{ok, after, ◌>>=◌, give, any, due, due_of, one_of, choose, word}
use Rattle.meaning.specs.Names.{name, new_name}
use Rattle.meaning.specs.Data.{assigns}
use Rattle.meaning.specs.Statements.{Env, ends, vecs, head}
use Rattle.meaning.proofs.Others.{same_eq}
use Rattle.held.specs.Held.{free_head}
use Rattle.held.proofs.Leads.{Leads, leads_bind, leads_give, leads_if}

-- ---- a token that was read is the one that stood there

pub any_is : (ts : Toks) → Leads any ts (λ t us. ts ≡ tok t us)
unfolding any
any_is (stop n p) = record { all = λ s us e. (let z : ◌≡◌ {A = ℕ} 0 1 = cc in absurd (omega arith)) }
any_is (tok t ts) = record { all = λ s us e. cc }

word_is : (ts : Toks) → Leads word ts (λ t us. ts ≡ tok t us)
unfolding word
word_is ts = leads_bind _ _ λ t us q. leads_if _ _ _ _ λ c. leads_give t ((any_is ts).all t us q)

pub name_is : (ts : Toks) → Leads name ts (λ t us. ts ≡ tok t us)
unfolding name
name_is ts = leads_bind _ _ λ t us q. leads_if _ _ _ _ λ c. leads_give t ((word_is ts).all t us q)

pub new_is : {A : Type 0} (used : List (Tok × A)) (ts : Toks) → Leads (new_name used) ts (λ t us. ts ≡ tok t us)
unfolding new_name
new_is used ts = leads_bind _ _ λ t us q. leads_if _ _ _ _ λ c. leads_give t ((name_is ts).all t us q)

pub due_is : (w : List ℕ) (ts : Toks) → Leads (due_of w) ts (λ p us. ts ≡ tok (record { at = p; word = w }) us)
unfolding due_of
due_is w ts = leads_bind _ _ λ t us q. leads_if _ _ _ _ λ c. leads_give _ (rw (← same_eq t.word w (not-false _ c)) ((any_is ts).all t us q))

-- ---- heads

pub head_end : (e : Env) (ts : Toks) (p : ℕ) (us : Toks) → due "}" ts ≡ ok p us → free_head e ts ≡ ok ends us
unfolding head choose one_of any ◌>>=◌ after bytes same give
head_end e ts p us q = rw ((due_is (bytes "}") ts).all p us q)

pub head_vector : (e : Env) (ts : Toks) (p : ℕ) (us : Toks) → due "V" ts ≡ ok p us → free_head e ts ≡ (assigns e.names true >>= λ a. give (vecs p a)) us
unfolding head choose one_of any ◌>>=◌ after bytes same give
head_vector e ts p us q = rw ((due_is (bytes "V") ts).all p us q)
