-- Behind a head: what the code says of it, and what it reads of the statement besides, make one statement.
use Prim.Native.Nat.{ℕ, ◌-◌, ◌<◌}
use native.Mathlib.Omega.{arith}
use mathlib.Core.Path.{◌≡◌, refl, sym, subst}
use mathlib.Core.Bool.{Bool, true, false}
use mathlib.Core.List.{List}
use Rattle.meaning.specs.Signals.{Names}
use Rattle.meaning.specs.Body.{Assigns, Setting, assigning, choosing, Args, Kind, looped, shifted, entered, Body, done, vec, set', inner}
use Rattle.meaning.specs.Statements.{Env, head, in_shift, statements}
use Rattle.words.specs.declared.Cursor.{Cursor}
use Rattle.words.specs.Cursor.{alive}
use Rattle.timing.specs.Makes.{Makes}
use Rattle.signals.proofs.Tidy.{gave}
use Rattle.measures.specs.declared.Measure.{Measure}
use Rattle.measures.specs.Measures.{Measures}
use Rattle.measures.specs.Uses.{Given}
use Rattle.measures.specs.Book.{measure_at}
use Rattle.arguments.specs.Supplied.{Supplied}
use Rattle.noted.specs.Noted.{Grows, Gives, Supplies}
use Rattle.heads.specs.declared.Headed.{Headed}
use Rattle.heads.specs.declared.What.TheVariants.{Ends, Vector, Assigns as AssignsOnly, Chooses, Loops, Shifts, Uses as UsesBody}
use Rattle.bodies.specs.Bodies.{Notes, Counted, Summed, Held, HeadIs, went, last, Turned, Begun}
use Rattle.bodies.specs.declared.Turn.{Turn}
use Rattle.bodies.proofs.Allowed.{allowed_head}
use Rattle.bodies.proofs.Noting.{notes_none, notes_vector, notes_assigning, notes_choosing, notes_shift, notes_entered, notes_looped}
use Rattle.bodies.proofs.Entering.{stated, noted_head}
use Rattle.bodies.proofs.Telling.{told_ends, told_vector, told_assigns, told_chooses, told_loops, told_shifts, told_uses}
use Rattle.bodies.proofs.Stating.{Plus, turned_ends, turned_refused, turned_vector, turned_setting, turned_used, turned_shift, turned_loop}

module _ {text book given args : List ℕ} {tables : ℕ} {e : Env} {own : Bool} {d : ℕ} {c : Cursor} {seen : Bool} {h : Headed} {x : Measure}
    {row : List ℕ} (t : HeadIs text book given args tables c (head e own d seen) h) where
  -- it was read whole
  whole : {q r : Turn} {row' : List ℕ} {N : Body → Type 0} → r ≡ q → q.turns ≡ 0 → Turned text e own d c seen x row q row' N
      → Begun text e own d c seen x row r row' N
  whole {row' = row'} {N} s z u =
      subst (λ (r : Turn). Begun text e own d c seen x row r row' N) (sym s) (record { whole = λ n. u; opened = λ n. absurd (n z) })

  pub begun_refused : {r : Turn} {used : List ℕ} → alive h.cursor ≡ false → r ≡ last h.cursor x → Begun text e own d c seen x row r row (Notes tables e used used)
  begun_refused off s = whole s refl (turned_refused t.makes.goes off)

  module _ (live : alive h.cursor ≡ true) where
    pub begun_ends : {r : Turn} {used : List ℕ} → h.what ≡ Ends → r ≡ last h.cursor x → Begun text e own d c seen x row r row (Notes tables e used used)
    begun_ends q s = whole s refl (turned_ends (told_ends t live q) (λ l. notes_none))

    pub begun_loop : {n : ℕ} {used : List ℕ} → h.what ≡ Loops n
        → Begun text e own d c seen x row (record { cursor = h.cursor; measure = x; ends = false; seen = seen; turns = n }) row (Notes tables e used used)
    begun_loop {n} q =
        let g = told_loops t live q in
        record {
          whole = λ z. absurd (omega (arith, g.1));
          opened = λ z. record { goes = g.0; deep = gave (allowed_head own d e seen) g.0 live; kept = refl };
        }

    module _ {r : Turn} {y z : Measure} {used used' : List ℕ} (p : Plus x y z) where
      module _ (note : (a : Assigns) → Given a given → Gives used' a) where
        pub begun_vector : {at : ℕ} {row' : List ℕ} → h.what ≡ Vector at → ((p : ℕ) (a : Assigns) → Measures (vec p a done) y)
            → ((p : ℕ) (a : Assigns) → Given a given → Counted own row (vec p a done) row') → r ≡ went h.cursor z seen
            → Begun text e own d c seen x row r row' (Notes tables e used used')
        begun_vector {at} q m k s =
            let g = told_vector t live q in
            whole s refl
            (turned_vector p g.1 (m at g.0) (k at g.0 g.2)
            (λ l. notes_vector (note g.0 g.2)))

        pub begun_assigns : ((s : Setting) → Measures (set' s done) y) → r ≡ went h.cursor z seen → h.what ≡ AssignsOnly
            → Begun text e own d c seen x row r row (Notes tables e used used')
        begun_assigns m s q =
            let g = told_assigns t live q in
            whole s refl (turned_setting p g.1 (m (assigning g.0)) (λ l. notes_assigning (note g.0 g.2)))

      pub begun_chooses : {k : ℕ} → ((s : Setting) → Measures (set' s done) y) → r ≡ went h.cursor z seen → h.what ≡ Chooses k
          → Begun text e own d c seen x row r row (Notes tables e used used')
      begun_chooses {k} m s q =
          let g = told_chooses t live q in
          whole s refl (turned_setting p g.0 (m (choosing k)) (λ l. notes_choosing g.1))

      pub begun_shift : {b : Cursor} {ns : Names} {row' : List ℕ} → h.what ≡ Shifts → e.names ≡ ns → Makes text h.cursor (in_shift ns) b (Held row row' used')
          → ((p : ℕ) (a : Assigns) → Measures (inner shifted (vec p a done) done) y) → r ≡ went b z true
          → Begun text e own d c seen x row r row' (Notes tables e used used')
      begun_shift {b} {row' = row'} q n k m s =
          whole s refl
          (turned_shift p (told_shifts t live q) live (subst (λ (ns : Names). Makes text h.cursor (in_shift ns) b (Held row row' used')) (sym n) k) m
          (λ at a g. notes_shift g))

      pub begun_used : {i n : ℕ} {w : Measure} → h.what ≡ UsesBody i n → w ≡ measure_at book i
          → ((k : Kind) (a : Args) (b : Body) → Measures b w → Measures (inner (entered k n a) b done) y) → r ≡ went h.cursor z seen
          → Grows used used' → ((a : Args) → Supplied text a given args → Supplies used' a)
          → Begun text e own d c seen x row r row (Notes tables e used used')
      begun_used {i = i} {w = w} q f m s grows note =
          let g = told_uses t live q in
          whole s refl
          (turned_used p g.3 (m _ g.2 g.1.body (subst (Measures g.1.body) (sym f) g.5.entry.measured))
          (λ l. notes_entered grows (stated i) (λ k. gave (noted_head tables used e own d seen k) g.3 live) (note g.2 g.6)))

-- ---- the whole statement: with the body of a Loop, if it is one

module _ {text : List ℕ} {e : Env} {own : Bool} {d : ℕ} {c : Cursor} {seen : Bool} {x : Measure} {row mid : List ℕ} {t : Turn} {N : Body → Type 0}
    (s : Begun text e own d c seen x row t mid N) where
  pub looped_deep : (t.turns ≡ 0 → ⊥) → 0 < d
  looped_deep n = (s.opened n).deep

  pub looped_whole : {q : Turn} {b : Cursor} {row' : List ℕ} {w y z : Measure} {tables : ℕ} {used used' used'' : List ℕ} → (t.turns ≡ 0 → ⊥)
      → Makes text t.cursor (statements e (d - 1) false) b (Summed false mid row' w (Notes tables e used' used''))
      → ((f : Body) → Measures f w → Measures (inner (looped t.turns) f done) y) → Plus x y z → q ≡ went b z seen → Grows used used'
      → Turned text e own d c seen x row q row' (Notes tables e used used'')
  looped_whole {b = b} {row'} {w} {tables = tables} {used} {used'} {used''} n m y-is p f grows =
      let o = s.opened n in
      let inside =
      subst (λ (r : List ℕ). Makes text t.cursor (statements e (d - 1) false) b (Summed false r row' w (Notes tables e used' used''))) o.kept m
      in
      subst (λ (q : Turn). Turned text e own d c seen x row q row' (Notes tables e used used'')) (sym f)
      (turned_loop p o.goes o.deep inside y-is (λ g. notes_looped grows))
