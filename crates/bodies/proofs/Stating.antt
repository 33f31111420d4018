-- One statement: what is said of it, whichever head it has.
use Prim.Native.Nat.{ℕ, ◌-◌, ◌<◌}
use native.Mathlib.Omega.{arith}
use mathlib.Core.Path.{◌≡◌}
use mathlib.Core.Bool.{Bool, true, false}
use mathlib.Core.List.{List}
use Rattle.tokens.proofs.Bools.{true_false}
use Rattle.meaning.specs.Reader.{Reader}
use Rattle.meaning.specs.Body.{Assigns, Setting, Args, Kind, looped, shifted, entered, Body, done, vec, set', inner}
use Rattle.meaning.specs.Statements.{Decl, Env, Head, ends, vecs, sets, loops, shifts, uses, head, in_shift, statements}
use Rattle.meaning.proofs.Takes.{Keeps}
use Rattle.held.proofs.Rest.{moves_leaves, leaves_keeps}
use Rattle.held.proofs.Grammar.{moves_in_shift}
use Rattle.held.proofs.Turn.{takes_head, keeps_deeper}
use Rattle.words.specs.declared.Cursor.{Cursor}
use Rattle.words.specs.Cursor.{alive, Goes}
use Rattle.words.proofs.Flow.{valued}
use Rattle.words.proofs.Loops.{room, less, no_more}
use Rattle.timing.specs.Makes.{Makes, Brings}
use Rattle.signals.proofs.Tidy.{gave}
use Rattle.measures.specs.declared.Measure.{Measure}
use Rattle.measures.specs.Measures.{Measures, joined}
use Rattle.measures.proofs.Joined.{joined_done}
use Rattle.noted.specs.Noted.{Gives}
use Rattle.bodies.specs.Bodies.{Counted, Summed, Held, rest, went, last, Turned}
use Rattle.bodies.proofs.Turning.{turn_ends, turn_vecs, turn_sets, turn_uses, turn_loops, turn_shifts, deeper_goes}
use Rattle.bodies.proofs.Allowed.{allowed_head}
use Rattle.bodies.proofs.Rowing.{counted_none, counted_setting, counted_entered, counted_looped}

-- one measure is that of statements, and others behind them
abbrev pub Plus : Measure → Measure → Measure → Type 0
Plus x y z = (a b : Body) → Measures a x → Measures b y → Measures (joined a b) z

-- a head takes a token, and nothing that follows it gives one back
module _ {text : List ℕ} {c b : Cursor} {h : Head} (e : Env) (own : Bool) (d : ℕ) (seen : Bool) (g : Goes text c (head e own d seen) b h) (live : alive c ≡ true)
  where
    less_head : room text b < room text c
    less_head = less (takes_head e own d seen) live g

    less_within : {r : Cursor} {m : Reader Body} {body : Body} → Keeps m → Goes text b m r body → room text r < room text c
    less_within k f = let h = less_head in let j = no_more k f in omega arith

module _ {text : List ℕ} {e : Env} {own : Bool} {d : ℕ} {c : Cursor} {seen : Bool} {x : Measure} {row : List ℕ} {N : Body → Type 0} where
  turned_one : {b : Cursor} {s : Bool} {one : Body} {y z : Measure} {row' : List ℕ}
      → ((front : Body) → Brings text c (rest e own d false seen front) b (rest e own d false s (joined front one)))
      → (alive c ≡ true → room text b < room text c) → Plus x y z → (alive b ≡ true → Measures one y) → (alive b ≡ true → Counted own row one row')
      → (alive b ≡ true → N one) → Turned text e own d c seen x row (went b z s) row' N
  turned_one {one = one} f l p m k n =
      record { one = one; brings = f; measured = λ live front h. p front one h (m live); counted = k; noted = n; less = l }

  module _ {b : Cursor} where
    pub turned_ends : Goes text c (head e own d seen) b ends → (alive b ≡ true → N done) → Turned text e own d c seen x row (last b x) row N
    turned_ends g n =
        record {
          one = done;
          brings = λ front. turn_ends text e own d seen front false g;
          measured = λ live front m. rw (joined_done front) m;
          counted = λ live. counted_none;
          noted = n;
          less = less_head e own d seen g;
        }

    -- it was refused
    pub turned_refused : {h : Head} → Goes text c (head e own d seen) b h → alive b ≡ false → Turned text e own d c seen x row (last b x) row N
    turned_refused g off = turned_ends (valued g (λ live. true_false live off)) (λ live. true_false live off)

    module _ {y z : Measure} (p : Plus x y z) where
      pub turned_vector : {row' : List ℕ} {at : ℕ} {a : Assigns} → Goes text c (head e own d seen) b (vecs at a) → Measures (vec at a done) y
          → Counted own row (vec at a done) row' → (alive b ≡ true → N (vec at a done)) → Turned text e own d c seen x row (went b z seen) row' N
      turned_vector g m k n = turned_one (λ front. turn_vecs text e own d seen front g) (less_head e own d seen g) p (λ live. m) (λ live. k) n

      pub turned_setting : {s : Setting} → Goes text c (head e own d seen) b (sets s) → Measures (set' s done) y
          → (alive b ≡ true → N (set' s done)) → Turned text e own d c seen x row (went b z seen) row N
      turned_setting g m n = turned_one (λ front. turn_sets text e own d seen front g) (less_head e own d seen g) p (λ live. m) (λ live. counted_setting) n

      pub turned_used : {k : Kind} {u : Decl} {t : ℕ} {a : Args} → Goes text c (head e own d seen) b (uses k u t a)
          → Measures (inner (entered k t a) u.body done) y → (alive b ≡ true → N (inner (entered k t a) u.body done))
          → Turned text e own d c seen x row (went b z seen) row N
      turned_used g m n = turned_one (λ front. turn_uses text e own d seen front g) (less_head e own d seen g) p (λ live. m) (λ live. counted_entered) n

      pub turned_shift : {row' used : List ℕ} {r : Cursor} → Goes text c (head e own d seen) b shifts → alive b ≡ true
          → Makes text b (in_shift e.names) r (Held row row' used) → ((at : ℕ) (a : Assigns) → Measures (inner shifted (vec at a done) done) y)
          → ((at : ℕ) (a : Assigns) → Gives used a → N (inner shifted (vec at a done) done)) → Turned text e own d c seen x row (went r z true) row' N
      turned_shift g live m y-is n =
          turned_one (λ front. turn_shifts text e own d seen front g m.goes)
          (λ l. less_within e own d seen g l (leaves_keeps (moves_leaves (moves_in_shift e.names))) m.goes) p
          (λ l. (let h = m.held l in rw h.is (y-is h.at h.assigns)))
          (λ l. record { counts = λ o. (m.held l).counts; stays = λ o. true_false (gave (allowed_head own d e seen) g live) o })
          (λ l. (let h = m.held l in rw h.is (n h.at h.assigns h.gives)))

      pub turned_loop : {n : ℕ} {row' : List ℕ} {r : Cursor} {w : Measure} {M : Body → Type 0} → Goes text c (head e own d seen) b (loops n) → 0 < d
          → Makes text b (statements e (d - 1) false) r (Summed false row row' w M) → ((f : Body) → Measures f w → Measures (inner (looped n) f done) y)
          → ((f : Body) → M f → N (inner (looped n) f done)) → Turned text e own d c seen x row (went r z seen) row' N
      turned_loop g deep m y-is n_is =
          let f = deeper_goes e d deep m.goes in
          turned_one (λ front. turn_loops text e own d seen front g f)
          (λ l. less_within e own d seen g l (keeps_deeper e d) f) p
          (λ l. y-is m.it (m.held l).measured)
          (λ l. counted_looped (m.held l).counted)
          (λ l. n_is m.it (m.held l).noted)
