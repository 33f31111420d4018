-- What the services' statements pin: an answer that is the definition's is the only one.
use Prim.Native.Nat.{ℕ}
use mathlib.Core.Path.{◌≡◌, sym, ◌∙◌}
use mathlib.Core.List.{List}
use Rattle.tokens.specs.Tokens.{next_token}
use Rattle.meaning.specs.Services.{check, Which, name_of, window, waveform}

-- any two answers that are the service's are equal
abbrev pub Determined : {A B : Type 0} → (A → B) → Type 0
Determined {A} {B} service = (x : A) (a b : B) → a ≡ service x → b ≡ service x → a ≡ b

pub determined : {A B : Type 0} (service : A → B) → Determined service
determined service x a b h k = h ∙ sym k

-- the five services, each of the text, the numbers and the lent bytes
pub services_determined :
    Determined {A = List ℕ × ℕ} (λ q. next_token q.0 q.1)
    × Determined check
    × Determined {A = List ℕ × Which × ℕ} (λ q. name_of q.0 q.1 q.2)
    × Determined {A = List ℕ × ℕ × ℕ × ℕ × List ℕ} (λ q. window q.0 q.1 q.2 q.3 q.4)
    × Determined {A = List ℕ × ℕ × ℕ × ℕ × List ℕ × List ℕ} (λ q. waveform q.0 q.1 q.2 q.3 q.4 q.5)
services_determined = (determined _, determined _, determined _, determined _, determined _)
