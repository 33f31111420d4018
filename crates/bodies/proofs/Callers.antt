-- For callers: a body behind its `{`, with the tokens from its first on, from where it is read at each use.
use Prim.Native.Nat.{ℕ}
use mathlib.Core.Path.{◌≡◌, refl, sym, ◌∙◌}
use mathlib.Core.Bool.{Bool, true, false}
use mathlib.Core.List.{List}
use Rattle.tokens.specs.Tokens.{toks}
use Rattle.meaning.specs.Bounds.{depth_most}
use Rattle.meaning.specs.Reader.{Reader, ◌>>=◌, give, due}
use Rattle.meaning.specs.Body.{Body}
use Rattle.meaning.specs.Statements.{Decl, Env, statements, declared}
use Rattle.words.specs.declared.Cursor.{Cursor}
use Rattle.words.specs.Cursor.{alive, stream, from, Goes}
use Rattle.words.proofs.Flow.{from_on, from_stop, given, then, alive_before, behind_due}
use Rattle.timing.specs.Makes.{Makes}

declared_goes : {text : List ℕ} {c r : Cursor} {b : Body} (e : Env) (own : Bool) → Goes text c (statements e depth_most own) r b
    → Goes text c (declared e own) r (record { body = b; from = stream text c })
unfolding declared ◌>>=◌
declared_goes {text} {c} {r} {b} e own g = record { same = (then whole g given).same ∙ by (alive c) refl }
  where
    whole : Body → Reader Decl
    whole b = give (record { body = b; from = stream text c })

    by : (z : Bool) → alive c ≡ z → from text c (statements e depth_most own >>= whole) ≡ from text c (declared e own)
    by true q = from_on text c _ q ∙ sym (from_on text c _ q)
    by false q = from_stop text c _ q ∙ sym (from_stop text c _ q)

-- it begins at the end of the `{`
pub declared_made : {text : List ℕ} {b c r : Cursor} {p : ℕ} {P : Body → Type 0} (e : Env) (own : Bool) → Goes text b (due "{") c p
    → Makes text c (statements e depth_most own) r P → Makes text c (declared e own) r (λ d. (d.from ≡ toks text b.end) × P d.body)
declared_made {text} {c = c} e own opening m =
    record {
      it = record { body = m.it; from = stream text c };
      goes = declared_goes e own m.goes;
      held = λ live. (behind_due _ opening (alive_before m.goes live), m.held live);
    }
