-- What stands behind a head and behind a body, where they are held.
use mathlib.Core.Path.{◌≡◌, ap, ◌∙◌}
use Rattle.tokens.specs.Tokens.{Toks}
use Rattle.meaning.specs.Body.{looped, shifted, entered, Body, done, vec, set', inner}
use Rattle.meaning.specs.Statements.{Env, Head}
use Rattle.held.specs.Held.{HeadAt, Holds}
use Rattle.references.specs.References.{behind, behind_head, behind_body}

module _ (e : Env) where
  pub behind_head_lem : (ts : Toks) {vs : Toks} {h : Head} → HeadAt e ts h vs → behind_head e ts ≡ vs
  unfolding behind_head behind
  behind_head_lem ts q = ap behind q

  pub behind_body_lem : (ts : Toks) (b : Body) (us : Toks) → Holds e ts b us → behind_body e ts b ≡ us
  unfolding behind_body Holds
  behind_body_lem ts done us x = behind_head_lem ts x
  behind_body_lem ts (vec p a r) us x = ap (λ (vs : Toks). behind_body e vs r) (behind_head_lem ts x.1) ∙ behind_body_lem x.0 r us x.2
  behind_body_lem ts (set' s r) us x = ap (λ (vs : Toks). behind_body e vs r) (behind_head_lem ts x.1) ∙ behind_body_lem x.0 r us x.2
  behind_body_lem ts (inner (looped n) b r) us x =
      ap (λ (vs : Toks). behind_body e (behind_body e vs b) r) (behind_head_lem ts x.2)
      ∙ ap (λ (ws : Toks). behind_body e ws r) (behind_body_lem x.0 b x.1 x.3)
      ∙ behind_body_lem x.1 r us x.4
  behind_body_lem ts (inner shifted b r) us x =
      ap (λ (vs : Toks). behind_body e (behind_body e vs b) r) (behind_head_lem ts x.2)
      ∙ ap (λ (ws : Toks). behind_body e ws r) (behind_body_lem x.0 b x.1 x.3)
      ∙ behind_body_lem x.1 r us x.4
  behind_body_lem ts (inner (entered k t a) b r) us x = ap (λ (vs : Toks). behind_body e vs r) (behind_head_lem ts x.3) ∙ behind_body_lem x.0 r us x.6
