-- What a loop keeps: one more turn comes, and what holds before any.
use Prim.Native.Nat.{ℕ}
use mathlib.Core.Path.{◌≡◌, refl}
use mathlib.Core.Bool.{Bool, true, not, ◌&&◌}
use mathlib.Core.List.{List, []}
use Rattle.std.specs.Prelude.{Option, Some, None, IfSome}
use Rattle.std.specs.Option.{is_some}
use native.Mathlib.Omega.{arith}
use Rattle.tokens.specs.Tokens.{Toks}
use Rattle.meaning.specs.Reader.{Reader, ahead}
use Rattle.held.proofs.Rest.{Moves}
use Rattle.words.specs.Cursor.{alive, stream}
use Rattle.words.specs.declared.Cursor.{Cursor}
use Rattle.spots.proofs.Following.{Turns, turn}
use Rattle.quiet.specs.Quiet.{Each, WavesIn, TablesIn, Coming}

-- what holds wherever there is a value
pub some_where : {A : Type 0} (r : Option A) {Q : A → Type 0} → ((x : A) → r ≡ Some x → Q x) → IfSome r Q
some_where None f = tt
some_where (Some x) f = f x refl

-- what holds where there is one, whatever it is
pub when_some : {A Q : Type 0} (r : Option A) → is_some r ≡ true → IfSome r (λ x. Q) → Q
when_some None e q = let z : ◌≡◌ {A = ℕ} 0 1 = cc in absurd (omega arith)
when_some (Some x) e q = q

-- one more turn comes
pub coming : {S : Type 0} {text : List ℕ} {step : S → Reader S} {P : S → Type 0} {c : Cursor} {a : S} {us : Toks} → ((s : S) → Moves (step s)) → Turns text step P c a us
    → {y : Bool} → y ≡ (alive c && not (ahead "}" (stream text c))) → y ≡ true → Coming text c step P
coming moves t e h = let u = turn moves t e h in record { state = t.state; kept = t.kept; answer = u.0; rest = u.1; read = u.2 }

-- before any waveform or table
pub no_waves : (period : ℕ) → WavesIn period []
unfolding Each
no_waves period = tt

pub no_tables : TablesIn []
unfolding Each
no_tables = tt
