-- One turn of the two loops over a chunk, and what the calls make of it.
use Prim.Native.Nat.{ℕ, ◌+◌, ◌≤◌, ◌<◌, min}
use native.Mathlib.Numerals.{add-one}
use mathlib.Core.Path.{◌≡◌, refl, sym, ap, ◌∙◌}
use mathlib.Core.Bool.{Bool, true, false, ◌||◌}
use mathlib.Core.List.{List, ◌∷◌, ◌++◌}
use lib.ListN.{length, get_or, drop, drop_of_length-le}
use lib.Dec.{eqb}
use borrow.Author.Tests.{eq-eqb, ne_eqb, eqb-true}
use Rattle.tokens.specs.Written.{cases}
use Rattle.tokens.specs.Refusals.{text_most, open_comment}
use Rattle.tokens.proofs.Reading.{cut}
use Rattle.intake.specs.declared.Intake.{Intake}
use Rattle.intake.specs.declared.Change.{Change}
use Rattle.std.specs.Prelude.{Result, Ok, Err}
use Rattle.tokens.specs.declared.Refusal.{Refusal}
use Rattle.intake.specs.declared.Stage.{Stage}
use Rattle.intake.specs.declared.Stage.TheVariants.{Open, Closed}
use Rattle.intake.specs.Intake.{Progress, open_at, refused_with, closed_at, ended, room_of, Step, stepped, step, lacks, refusal_of, refusal, Taken, on, refused, behind, takes, written, after_taking, chunked, no_store, is_slash, is_block, is_star, last_bytes, closing, after_closing, closed}
use Rattle.intake.specs.Answers.{adds_of, step_by, moved_by, last_of, answered, added, passes, Puts}
use Rattle.intake.proofs.Bytes.{Free, free, last_adds}
use Rattle.intake.proofs.Stores.{Within, written_none, written_more, puts_length, lacks_more, room_least, within_lacks}

-- ---- a byte in front

module _ (room : ℕ) (x : Intake) (b : ℕ) (s : List ℕ) where
  pub takes_on : refusal room x b ≡ 0 → takes room x (b ∷ s) ≡ behind (step x b).adds (takes room (step x b).intake s)
  unfolding takes
  takes_on e = rw (eq-eqb (refusal room x b) 0 e, takes)

  pub takes_refused : (refusal room x b ≡ 0 → ⊥) → takes room x (b ∷ s) ≡ refused (refusal room x b) x.taken
  unfolding takes
  takes_refused e = rw (ne_eqb (refusal room x b) 0 e, takes)

  -- where the bytes are not refused, the first is not
  pub passes_first : passes (takes room x (b ∷ s)) ≡ true → refusal room x b ≡ 0
  unfolding takes passes
  passes_first e = by (eqb (refusal room x b) 0) refl e
    where
      by : (t : Bool) → eqb (refusal room x b) 0 ≡ t
          → passes
          (elim t [
            | true ↦ behind (step x b).adds (takes room (step x b).intake s)
            | false ↦ refused (refusal room x b) x.taken
          ]) ≡ true
          → refusal room x b ≡ 0
      by true k h = eqb-true (refusal room x b) 0 k
      by false k h = cc

answered_behind : (a : List ℕ) (t : Taken) → answered (behind a t) ≡ answered t
unfolding behind answered
answered_behind a (on x m) = refl
answered_behind a (refused n p) = refl

pub passes_behind : (a : List ℕ) (t : Taken) → passes (behind a t) ≡ passes t
unfolding behind passes
passes_behind a (on x m) = refl
passes_behind a (refused n p) = refl

added_behind : (a : List ℕ) (t : Taken) → passes t ≡ true → added (behind a t) ≡ a ++ added t
unfolding behind passes added
added_behind a (on x m) e = refl
added_behind a (refused n p) e = cc

-- ---- the code's values for that byte

module _ (x : Intake) (b : ℕ) (c : Change) (e : step_by x b c ≡ step x b) where
  adds_is : (step x b).adds ≡ adds_of x.run b c
  unfolding step_by stepped
  adds_is = sym (ap (λ (z : Step). z.adds) e)

  intake_is : (k : ℕ) → k ≡ x.stored + length (adds_of x.run b c) → moved_by x c k ≡ (step x b).intake
  unfolding step_by stepped
  intake_is k h = rw (h, add-one) (ap (λ (z : Step). z.intake) e)

  refusal_is : (room n : ℕ) → n ≡ length (adds_of x.run b c) → refusal_of room x b n ≡ refusal room x b
  unfolding refusal
  refusal_is room n h = rw (h, adds_is)

-- ---- looking

abbrev pub Looking : ℕ → List ℕ → Intake → Intake → ℕ → Type 0
Looking room chunk first here i = answered (takes room first chunk) ≡ answered (takes room here (drop i chunk))

module _ (room : ℕ) (chunk : List ℕ) (first here : Intake) (i n : ℕ) (c : Change) (known : Looking room chunk first here i) (h : i < length chunk)
    (e : step_by here (get_or chunk i 0) c ≡ step here (get_or chunk i 0)) (k : n ≡ length (adds_of here.run (get_or chunk i 0) c)) where
  pub looked_on : (next : Intake) → refusal_of room here (get_or chunk i 0) n ≡ 0 → next ≡ moved_by here c (here.stored + n)
      → Looking room chunk first next (i + 1)
  looked_on next f m =
      known
      ∙ ap (λ (l : List ℕ). answered (takes room here l)) (cut chunk i h)
      ∙ ap answered (takes_on room here (get_or chunk i 0) (drop (i + 1) chunk) (sym (refusal_is here (get_or chunk i 0) c e room n k) ∙ f))
      ∙ answered_behind _ _
      ∙ ap (λ (y : Intake). answered (takes room y (drop (i + 1) chunk)))
      (sym (m ∙ intake_is here (get_or chunk i 0) c e (here.stored + n) (ap (λ (z : ℕ). here.stored + z) k)))

  pub looked_refused : {x : Refusal} → x ≡ record { no = refusal_of room here (get_or chunk i 0) n; place = here.taken } → (x.no ≡ 0 → ⊥)
      → Err x ≡ answered (takes room first chunk)
  unfolding answered
  looked_refused {x} m z =
      let q : refusal_of room here (get_or chunk i 0) n ≡ refusal room here (get_or chunk i 0) = refusal_is here (get_or chunk i 0) c e room n k in
      let no : x.no ≡ refusal_of room here (get_or chunk i 0) n = ap (λ (y : Refusal). y.no) m in
      sym
      (known
      ∙ ap (λ (l : List ℕ). answered (takes room here l)) (cut chunk i h)
      ∙ ap answered (takes_refused room here (get_or chunk i 0) (drop (i + 1) chunk) (λ y. z (no ∙ q ∙ y)))
      ∙ ap (λ (v : ℕ). Err (record { no = v; place = here.taken })) (sym q)
      ∙ ap Err (sym m))

pub looked_all : (room : ℕ) (chunk : List ℕ) (first here : Intake) (i : ℕ) → Looking room chunk first here i → length chunk ≤ i
    → Ok here ≡ answered (takes room first chunk)
unfolding takes answered
looked_all room chunk first here i known h = sym (known ∙ ap (λ (l : List ℕ). answered (takes room here l)) (drop_of_length-le chunk h))

-- ---- filling

pub record Filling (chunk before : List ℕ) (first : Intake) (store : List ℕ) (here : Intake) (i : ℕ) : Type 0 where
  pub passed : passes (takes (room_of before) here (drop i chunk)) ≡ true
  pub is : written before first.stored (added (takes (room_of before) first chunk))
      ≡ written store here.stored (added (takes (room_of before) here (drop i chunk)))
  pub kept : length store ≡ length before

module _ {chunk before : List ℕ} {first : Intake} {store : List ℕ} {here : Intake} {i : ℕ}
    (known : Filling chunk before first store here i) (h : i < length chunk) where
  now_passed : passes (takes (room_of before) here (get_or chunk i 0 ∷ drop (i + 1) chunk)) ≡ true
  now_passed = rw (cut chunk i h) at known.passed

  -- the byte is not refused
  pub unrefused : refusal (room_of before) here (get_or chunk i 0) ≡ 0
  unrefused = passes_first (room_of before) here (get_or chunk i 0) (drop (i + 1) chunk) now_passed

  pub byte_free : Free (room_of before) here (get_or chunk i 0) (length (step here (get_or chunk i 0)).adds)
  unfolding refusal
  byte_free = free (room_of before) here (get_or chunk i 0) (length (step here (get_or chunk i 0)).adds) unrefused

  module _ (c : Change) (e : step_by here (get_or chunk i 0) c ≡ step here (get_or chunk i 0)) where
    pub fill_within : Within (length store) here.stored (length (adds_of here.run (get_or chunk i 0) c))
    fill_within =
        rw (known.kept, ← adds_is here (get_or chunk i 0) c e)
        (lacks_more (room_of before) (length before) here.stored _ (room_least before) byte_free.roomy)

    pub fill_room : lacks (length store) here.stored (length (adds_of here.run (get_or chunk i 0) c)) ≡ false
    fill_room = within_lacks (length store) here.stored _ fill_within

    pub filled_on : {end : ℕ} {after : List ℕ} {next : Intake} → Puts store here.stored (adds_of here.run (get_or chunk i 0) c) end after
        → next ≡ moved_by here c end → Filling chunk before first after next (i + 1)
    filled_on {end} {after} {next} p m =
        let t = takes (room_of before) (step here (get_or chunk i 0)).intake (drop (i + 1) chunk) in
        let a = (step here (get_or chunk i 0)).adds in
        let n : next ≡ (step here (get_or chunk i 0)).intake = m ∙ intake_is here (get_or chunk i 0) c e end p.behind in
        let k = takes_on (room_of before) here (get_or chunk i 0) (drop (i + 1) chunk) unrefused in
        let o : passes t ≡ true = sym (passes_behind a t) ∙ ap passes (sym k) ∙ now_passed in
        record {
          passed = rw n o;
          is =
              known.is
              ∙ ap (λ (l : List ℕ). written store here.stored (added (takes (room_of before) here l))) (cut chunk i h)
              ∙ ap (λ (z : Taken). written store here.stored (added z)) k
              ∙ ap (written store here.stored) (added_behind a t o ∙ ap (λ (l : List ℕ). l ++ added t) (adds_is here (get_or chunk i 0) c e))
              ∙ sym (written_more store here.stored (adds_of here.run (get_or chunk i 0) c) (added t) fill_within)
              ∙ same_written p.store n (ap (λ (y : Intake). y.stored) m ∙ p.behind);
          kept = puts_length p fill_within ∙ known.kept;
        }
      where
        same_written : {after w : List ℕ} {next y : Intake} {k : ℕ} → after ≡ w → next ≡ y → next.stored ≡ k
            → written w k (added (takes (room_of before) y (drop (i + 1) chunk)))
            ≡ written after next.stored (added (takes (room_of before) next (drop (i + 1) chunk)))
        same_written f g h = cc

pub filled_all : {chunk before : List ℕ} {first : Intake} {store : List ℕ} {here : Intake} {i : ℕ} → Filling chunk before first store here i
    → length chunk ≤ i → store ≡ written before first.stored (added (takes (room_of before) first chunk))
unfolding takes added
filled_all {chunk} {before} {first} {store} {here} {i} known h =
    sym
    (known.is
    ∙ ap (λ (l : List ℕ). written store here.stored (added (takes (room_of before) here l))) (drop_of_length-le chunk h)
    ∙ written_none store here.stored)

-- ---- the call: what was looked at is what is answered

-- this call answers r and leaves the store so
abbrev pub Takes : Progress → List ℕ → List ℕ → Progress → List ℕ → Type 0
Takes p chunk store r after = (r ≡ (chunked p chunk store).0) × (after ≡ (chunked p chunk store).1)

module _ (store : List ℕ) (at : ℕ) where
  passed : (t : Taken) {x : Intake} → Ok x ≡ answered t → passes t ≡ true
  unfolding answered passes
  passed (on y a) h = refl
  passed (refused n p) h = cc

  opened : (t : Taken) {x : Intake} {after : List ℕ} → Ok x ≡ answered t → after ≡ written store at (added t)
      → (open_at x ≡ (after_taking store at t).0) × (after ≡ (after_taking store at t).1)
  unfolding answered added after_taking
  opened (on y a) h k = (cc, k)
  opened (refused n p) h k = (cc, cc)

  halted : (t : Taken) {x : Refusal} → Err x ≡ answered t → (Err x ≡ (after_taking store at t).0) × (store ≡ (after_taking store at t).1)
  unfolding answered after_taking
  halted (on y a) h = (cc, cc)
  halted (refused n p) h = (cc, refl)

module _ (x : Intake) (chunk store : List ℕ) where
  -- what a look with the store's room answered
  abbrev pub Looked : Result Intake Refusal → Type 0
  Looked r = r ≡ answered (takes (room_of store) x chunk)

  pub look_said : {room : ℕ} {r : Result Intake Refusal} → room ≡ min text_most (length store) → r ≡ answered (takes room x chunk) → Looked r
  unfolding room_of
  look_said e h = h ∙ rw e

  pub look_passes : {y : Intake} → Looked (Ok y) → passes (takes (room_of store) x chunk) ≡ true
  look_passes e = passed store x.stored (takes (room_of store) x chunk) e

  pub taken_on : {y : Intake} {after : List ℕ} → Looked (Ok y) → after ≡ written store x.stored (added (takes (room_of store) x chunk))
      → Takes (open_at x) chunk store (open_at y) after
  unfolding chunked
  taken_on e k = opened store x.stored (takes (room_of store) x chunk) e k

  pub taken_refused : {r : Refusal} → Looked (Err r) → Takes (open_at x) chunk store (Err r) store
  unfolding chunked
  taken_refused e = halted store x.stored (takes (room_of store) x chunk) e

module _ {p : Progress} (chunk store : List ℕ) where
  pub take_open : {s : Stage} {x : Intake} {r : Progress} {after : List ℕ} → p ≡ Ok s → s ≡ Open x → Takes (open_at x) chunk store r after → Takes p chunk store r after
  take_open e k t = rw (e, k) t

  pub take_refused : {x : Refusal} {r : Progress} → p ≡ Err x → r ≡ Err x → Takes p chunk store r store
  unfolding chunked
  take_refused e k = rw (e, k) (refl, refl)

  pub take_closed : {s : Stage} {n : ℕ} → p ≡ Ok s → s ≡ Closed n → Takes p chunk store p store
  unfolding chunked
  take_closed e k = rw (e, k) (refl, refl)

-- ---- the close

-- what was asked of the store's room, by what was counted
pub room_said : (s : List ℕ) (at : ℕ) {room n m : ℕ} {t : Bool} → room ≡ min text_most (length s) → n ≡ m → lacks room at n ≡ t
    → lacks (room_of s) at m ≡ t
unfolding room_of
room_said s at e k h = rw (← e, ← k) h

-- this close answers r and leaves the store so
abbrev pub Closes : Progress → List ℕ → Progress → List ℕ → Type 0
Closes p store r after = (r ≡ (closed p store).0) × (after ≡ (closed p store).1)

module _ (store : List ℕ) (x : Intake) where
  pub closed_in_comment : (eqb x.mode is_block || eqb x.mode is_star) ≡ true → closed (open_at x) store ≡ (refused_with open_comment x.opening, store)
  unfolding closed closing after_closing cases
  closed_in_comment e = rw e

  module _ (e : (eqb x.mode is_block || eqb x.mode is_star) ≡ false) where
    pub closed_no_room : lacks (room_of store) x.stored (length (last_bytes x)) ≡ true → closed (open_at x) store ≡ (refused_with no_store x.taken, store)
    unfolding closed closing after_closing cases
    closed_no_room h = rw (e, h)

    pub closed_closes : lacks (room_of store) x.stored (length (last_bytes x)) ≡ false
        → closed (open_at x) store ≡ (closed_at (x.stored + length (last_bytes x)), written store x.stored (last_bytes x))
    unfolding closed closing after_closing cases
    closed_closes h = rw (e, h)

module _ (store : List ℕ) (x : Intake) where
  pub close_in_comment : (eqb x.mode is_block || eqb x.mode is_star) ≡ true → Closes (open_at x) store (refused_with open_comment x.opening) store
  close_in_comment e = rw (closed_in_comment store x e) (refl, refl)

  module _ (e : (eqb x.mode is_block || eqb x.mode is_star) ≡ false) {c : Change} (k : c ≡ last_of (eqb x.mode is_slash)) where
    pub close_no_room : lacks (room_of store) x.stored (length (adds_of x.run 0 c)) ≡ true → Closes (open_at x) store (refused_with no_store x.taken) store
    close_no_room h = rw (closed_no_room store x e (rw (last_adds x k) at h)) (refl, refl)

    module _ (h : lacks (room_of store) x.stored (length (adds_of x.run 0 c)) ≡ false) where
      pub close_room : lacks (length store) x.stored (length (adds_of x.run 0 c)) ≡ false
      close_room = within_lacks (length store) x.stored _ (lacks_more (room_of store) (length store) x.stored _ (room_least store) h)

      pub close_closes : {end : ℕ} {after : List ℕ} → Puts store x.stored (adds_of x.run 0 c) end after → Closes (open_at x) store (closed_at end) after
      close_closes {end} {after} p =
          let r : Puts store x.stored (last_bytes x) end after = rw (last_adds x k) at p in
          rw (closed_closes store x e (rw (last_adds x k) at h)) (ap closed_at r.behind, r.store)

module _ {p : Progress} (store : List ℕ) where
  pub close_open : {s : Stage} {x : Intake} {r : Progress} {after : List ℕ} → p ≡ Ok s → s ≡ Open x → Closes (open_at x) store r after → Closes p store r after
  close_open e k t = rw (e, k) t

  pub close_refused : {x : Refusal} {r : Result ℕ Refusal} → p ≡ Err x → r ≡ Err x → Closes p store (ended r) store
  unfolding closed
  close_refused e k = rw (e, k) (refl, refl)

  pub close_closed : {s : Stage} {n : ℕ} → p ≡ Ok s → s ≡ Closed n → Closes p store (closed_at n) store
  unfolding closed
  close_closed e k = rw (e, k) (refl, refl)
