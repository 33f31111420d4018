-- What follows a used name, by the token ahead: `;`, arguments in braces, or a token that is not allowed here.
use Prim.Native.Nat.{ℕ}
use mathlib.Core.Path.{◌≡◌, refl}
use mathlib.Core.Bool.{Bool, true, false, not, ◌&&◌}
use mathlib.Core.List.{List, []}
use Rattle.tokens.specs.Written.{bytes}
use Rattle.tokens.specs.Tokens.{Tok}
use Rattle.meaning.specs.Reader.{any, ahead, ahead_of, due, while}
use Rattle.meaning.specs.Signals.{Names}
use Rattle.meaning.specs.Body.{Args, Body}
use Rattle.meaning.specs.Data.{argument, arguments}
use Rattle.meaning.proofs.Gives.{gives_choose}
use Rattle.words.specs.declared.Cursor.{Cursor}
use Rattle.words.specs.Cursor.{ahead as ahead_tok, stream, alive, Goes, taking}
use Rattle.words.proofs.Flow.{given, alive_before}
use Rattle.words.proofs.Loops.{closes}
use Rattle.words.proofs.Choice.{chosen, passed_over, none_chosen}
use Rattle.signals.proofs.Tidy.{gave}
use Rattle.timing.specs.Makes.{Makes}
use Rattle.timing.proofs.Making.{made, Looping}
use Rattle.arguments.specs.Supplied.{Supplied}

-- the loop over the arguments of body b: where it stands, with those so far, of which P holds
abbrev pub Listing : List ℕ → Cursor → Names → Body → Cursor → (Args → Type 0) → Type 0
Listing text c ns b r P =
    Looping text c (while (λ ts. not (ahead "}" ts)) (argument ns b) []) (λ ts. not (ahead "}" ts)) (argument ns b) r P

module _ {text : List ℕ} {c : Cursor} {x : Bool} (ns : Names) (b : Body) (e : x ≡ (alive c && ahead_of (bytes ";") (stream text c))) where
  -- none
  pub no_arguments : {r : Cursor} {table args : List ℕ} → x ≡ true → Goes text c any r (ahead_tok text c) → Supplied text [] table args
      → Makes text c (arguments ns b) r (λ y. (y.1 ≡ c.at) × Supplied text y.0 table args)
  unfolding arguments
  no_arguments h g none = made (chosen ";" _ _ e h g given) λ live. (refl, none)

  module _ {y : Bool} (h : x ≡ false) (f : y ≡ (alive c && ahead_of (bytes "{") (stream text c))) where
    -- those in braces
    pub braced : {d cursor r : Cursor} {P : Args → Type 0} {p : ℕ} → y ≡ true → Goes text c any d (ahead_tok text c)
        → Makes text d (while (λ ts. not (ahead "}" ts)) (argument ns b) []) cursor P → Goes text cursor (due "}") r p
        → Makes text c (arguments ns b) r (λ z. (z.1 ≡ p) × P z.0)
    unfolding arguments
    braced k g l close =
        made (passed_over ";" _ _ e h (chosen "{" _ _ f k g (closes "}" (argument ns b) [] l.goes close)))
        λ live. (refl, l.held (alive_before close live))

    -- neither
    pub not_arguments : {r : Cursor} {t : Tok} {P : Args × ℕ → Type 0} → y ≡ false → Goes text c (taking false) r t → Makes text c (arguments ns b) r P
    unfolding arguments
    not_arguments k g =
        made (passed_over ";" _ _ e h (passed_over "{" _ _ f k (none_chosen {a = ([], 0)} g)))
        λ live. absurd (gave {P = λ z. ⊥} (gives_choose {A = Args × ℕ} (λ z. ⊥) [] tt) (none_chosen {a = ([], 0)} g) live)
