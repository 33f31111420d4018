-- A part again and again until a closing token, where it was read: one turn at a time.
use Prim.Native.Nat.{ℕ}
use Prim.Native.String.{String}
use mathlib.Core.Path.{◌≡◌, refl, sym, ap, ◌∙◌}
use mathlib.Core.Bool.{true, false, not}
use Rattle.tokens.specs.Tokens.{Toks}
use Rattle.meaning.specs.Reader.{Res, Reader, ok, refuse, after, ◌>>=◌, give, ahead, due, while, closed, until}
use Rattle.meaning.proofs.Takes.{Takes, while_done, while_on}
use Rattle.meaning.proofs.Gives.{bind_ok, give_ok}

module _ {S : Type 0} (close : String) (step : S → Reader S) (takes : (s : S) → Takes (step s)) (s : S) (ts : Toks) where
  -- it is not ahead: a turn, and on from there
  pub until_on : ahead close ts ≡ false → until close step s ts ≡ after (step s ts) (until close step)
  unfolding until closed ◌>>=◌ after
  until_on h = rw (while_on (λ us. not (ahead close us)) step takes s ts (ap not h)) (by (step s ts))
    where
      by : (r : Res S) → after {A = S × ℕ} (after (after r (while (λ us. not (ahead close us)) step)) (λ x. due close >>= λ p. give (x, p))) (λ x. give x.0)
          ≡ after r (until close step)
      by (ok s' us) = refl
      by (refuse n p) = refl

  -- it is ahead: done
  pub until_end : {x : S} {us : Toks} → ahead close ts ≡ true → until close step s ts ≡ ok x us → s ≡ x
  unfolding until closed
  until_end {x} {us} h e =
      let all = bind_ok _ _ ts x us e in
      let turns = bind_ok _ _ ts all.0 all.1 all.2 in
      let end = bind_ok _ _ turns.1 all.0 all.1 turns.3 in
      let q = sym (while_done (λ us. not (ahead close us)) step takes s ts (ap not h)) ∙ turns.2 in
      let k : s ≡ turns.0 = cc in
      k ∙ ap (λ (y : S × ℕ). y.0) (give_ok end.3).0 ∙ (give_ok all.3).0
