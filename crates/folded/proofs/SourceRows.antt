-- The cycles of an accepted text: each has a table, one of the text's, and as many pins as there are signals, whose characters have waveforms there.
use Prim.Native.Nat.{ℕ, zero, suc, ◌+◌, ◌<◌}
use native.Mathlib.Omega.{arith}
use mathlib.Core.Path.{◌≡◌, refl, sym, subst}
use mathlib.Core.Bool.{Bool, true, false}
use mathlib.Core.Option.{Option, none, some}
use mathlib.Core.List.{List, [], ◌∷◌, ◌++◌}
use lib.Dec.{eqb}
use lib.ListN.{length}
use Rattle.tokens.specs.Written.{same}
use Rattle.tokens.specs.Tokens.{Tok, Toks}
use Rattle.meaning.specs.Bounds.{depth_most}
use Rattle.meaning.specs.Names.{find, old_name}
use Rattle.meaning.specs.Signals.{Names}
use Rattle.meaning.specs.Timing.{Tables}
use Rattle.meaning.specs.Body.{Assigns, Args, mark, Setting, assigning, choosing, Kind, macro, procedure, listed, Way, looped, shifted, entered, Body, done, vec, set', inner}
use Rattle.meaning.specs.Statements.{Decl, Decls, Env, numbered, Head, ends, vecs, sets, loops, shifts, uses, used, chosen, looping, shift_head, label_head, head, statements}
use Rattle.meaning.specs.Document.{one_macro, one_procedure, bodies, pattern, patterns}
use Rattle.meaning.specs.Run.{State, Cycle, Played, shift_of, put, puts, changed, cycle_at, follow, again, entering, playing, play, start, cycles_of}
use Rattle.meaning.proofs.Gives.{known_ok, Gives, gives_bind, gives_after, gives_give, gives_choose}
use Rattle.meaning.proofs.Choices.{◌also◌}
use Rattle.meaning.proofs.Statements.{Kept, Deeper, gives_statements}
use Rattle.meaning.proofs.Everywhere.{Every, every_name}
use Rattle.meaning.proofs.Rows.{puts_table}
use Rattle.held.proofs.Leads.{Leads, leads_bind, leads_give, leads_while}
use Rattle.held.proofs.Declared.{More, one_body_lem, one_pattern}
use Rattle.held.proofs.Bodies.{leads_bodies}
use Rattle.held.proofs.Parts.{first_env}

-- ---- every W chooses one of n tables

abbrev Sets : ℕ → Setting → Type 0
Sets n (assigning a) = Unit {0}
Sets n (choosing k) = k < n

unfoldable pub Chosen : ℕ → Body → Type 0
Chosen n done = Unit {0}
Chosen n (vec p a r) = Chosen n r
Chosen n (set' x r) = Sets n x × Chosen n r
Chosen n (inner w b r) = Chosen n b × Chosen n r

abbrev Heads : ℕ → Head → Type 0
Heads n ends = Unit {0}
Heads n (vecs p a) = Unit {0}
Heads n (sets x) = Sets n x
Heads n (loops k) = Unit {0}
Heads n shifts = Unit {0}
Heads n (uses k x t a) = Chosen n x.body

number_below : {A : Type 0} (i : ℕ) (xs : List (Tok × A)) (w : List ℕ) (k : ℕ) → find (numbered i xs) w ≡ some k → k < i + length xs
unfolding numbered find
number_below i [] w k e = absurd (let z : ◌≡◌ {A = ℕ} 0 1 = cc in omega arith)
number_below i (x ∷ xs) w k e = by (same x.0.word w) e (number_below (suc i) xs w k)
  where
    by : (b : Bool) → ◌≡◌ {A = Option ℕ} (elim b [ true ↦ some i | false ↦ find (numbered (suc i) xs) w ]) (some k) → (find (numbered (suc i) xs) w ≡ some k → k < suc i + length xs) → k < i + suc (length xs)
    by true e ih = let z : i ≡ k = cc in omega arith
    by false e ih = let z = ih e in omega arith

gives_number : (tabs : Tables) → Gives (λ x. x.1 < length tabs) (old_name (numbered 0 tabs))
unfolding old_name
gives_number tabs =
    gives_after P _ _ λ t. gives_bind (λ k. k < length tabs) P _ _ (record { all = λ ts k us e. (let z = number_below 0 tabs t.word k (known_ok _ _ _ ts e) in omega arith) }) λ k h. gives_give P (t, k) h
  where
    P : Tok × ℕ → Type 0
    P x = x.1 < length tabs

module _ (n : ℕ) where
  chosen_used : (k : Kind) (d : ℕ) (ns : Names) (l : Decls) → Every (Chosen n) l → Gives (Heads n) (used k d ns l)
  unfolding used
  chosen_used k d ns l h =
      gives_bind (λ x. Chosen n x.1.body) (Heads n) _ _ (every_name (Chosen n) l h) λ x q. gives_after (Heads n) _ _ λ u.
      gives_after (Heads n) _ _ λ a. gives_after (Heads n) _ _ λ v. gives_give (Heads n) _ q

  chosen_table : (tabs : Tables) → length tabs ≡ n → Gives (Heads n) (chosen tabs)
  unfolding chosen
  chosen_table tabs e = gives_bind (λ x. x.1 < length tabs) (Heads n) _ _ (gives_number tabs) λ x h. gives_after (Heads n) _ _ λ p. gives_give (Heads n) _ (omega arith)

  module _ (e : Env) (tabs : length e.tables ≡ n) (ms : Every (Chosen n) e.macros) (ps : Every (Chosen n) e.procs) where
    chosen_head : (own : Bool) (d : ℕ) (seen : Bool) → Gives (Heads n) (head e own d seen)
    unfolding head looping shift_head label_head
    chosen_head own d seen = gives_choose H _ (
        (λ p. gives_after H _ _ λ a. gives_give H _ tt)
        also (λ p. gives_after H _ _ λ a. gives_give H _ tt)
        also (λ p. chosen_table e.tables tabs)
        also (λ p. gives_after H _ _ λ u. gives_after H _ _ λ k. gives_after H _ _ λ q. gives_give H _ tt)
        also (λ p. chosen_used macro d e.names e.macros ms)
        also (λ p. chosen_used procedure d e.names e.procs ps)
        also (λ p. gives_after H _ _ λ u. gives_after H _ _ λ t. gives_after H _ _ λ q. gives_give H _ tt)
        also (λ p. gives_after H _ _ λ u. gives_after H _ _ λ v. gives_after H _ _ λ q. gives_give H _ tt)
        also (λ p. gives_give H _ tt)
        also tt)
      where
        H : Head → Type 0
        H = Heads n

    abbrev Within : Bool → ℕ → Body → Type 0
    Within own d b = Chosen n b

    in_loop : (d : ℕ) (b : Body) → Deeper Within d b → Chosen n b
    in_loop zero b h = absurd h
    in_loop (suc d) b h = h

    kept : (own : Bool) (d : ℕ) → Kept (Heads n) (Deeper Within d) (Within own d)
    unfolding Chosen
    kept own d = record {
      end = tt;
      vector = λ p a r h q. q;
      setting = λ x r h q. (h, q);
      loop = λ k b r h c q. (in_loop d b c, q);
      shift = λ p a r h q. (tt, q);
      use' = λ k x t a r h q. (h, q);
    }

    chosen_statements : (d : ℕ) (own : Bool) → Gives (Chosen n) (statements e d own)
    chosen_statements d own = gives_statements (λ own d. Heads n) Within kept e chosen_head d own

  -- ---- in a whole text

  every_more : (l : Decls) (x : Tok × Decl) → Every (Chosen n) l → Chosen n x.1.body → Every (Chosen n) (l ++ x ∷ [])
  unfolding Every
  every_more [] x h k = (k, tt)
  every_more (y ∷ l) x h k = (h.0, every_more l x h.1 k)

  pub record Choosing (e : Env) (ts : Toks) : Type 0 where
    pub tables : length e.tables ≡ n
    pub macros : Every (Chosen n) e.macros
    pub procs : Every (Chosen n) e.procs

  chosen_more : (e : Env) (ts : Toks) → Choosing e ts → (own : Bool) (names complete : Decls) (vs : Toks) (l : Decls) (us : Toks) → More e own names complete vs l us
      → Every (Chosen n) complete → Every (Chosen n) l
  chosen_more e ts h own names complete vs l us m k =
      subst (Every (Chosen n)) (sym m.is)
      (every_more complete (m.name, m.body) k ((chosen_statements e h.tables h.macros h.procs depth_most own).all m.body.from m.body.body us m.read))

  macro_chosen : (e : Env) (ts : Toks) → Choosing e ts → Leads (one_macro e) ts Choosing
  unfolding one_macro
  macro_chosen e ts h = leads_bind _ _ λ l us q.
      leads_give _ (record { tables = h.tables; macros = chosen_more e ts h true _ e.macros ts l us ((one_body_lem e _ e.macros ts).all l us q) h.macros; procs = h.procs })

  procedure_chosen : (e : Env) (ts : Toks) → Choosing e ts → Leads (one_procedure e) ts Choosing
  unfolding one_procedure
  procedure_chosen e ts h = leads_bind _ _ λ l us q.
      leads_give _ (record { tables = h.tables; macros = h.macros; procs = chosen_more e ts h true _ e.procs ts l us ((one_body_lem e _ e.procs ts).all l us q) h.procs })

  pub bodies_chosen : (ns : Names) (tabs : Tables) → length tabs ≡ n → (ts : Toks) → Leads (bodies (first_env ns tabs)) ts Choosing
  unfolding Every
  bodies_chosen ns tabs l ts =
      leads_bodies Choosing (λ e us ts r h. record { tables = h.tables; macros = h.macros; procs = h.procs }) macro_chosen procedure_chosen
      (first_env ns tabs) ts (record { tables = l; macros = tt; procs = tt })

  pattern_chosen : (e : Env) (vs : Toks) → Choosing e vs → (b : Tok) (l : Decls) (ts : Toks) → Every (Chosen n) l → Leads (pattern e b l) ts (λ l us. Every (Chosen n) l)
  pattern_chosen e vs h b l ts k = record {
    all = λ m us q. (let i = (one_pattern e b l ts).all m us q in chosen_more e vs h false _ l i.1 m us i.3 k);
  }

  -- THE LAW: so does every pattern
  pub patterns_chosen : (e : Env) (vs : Toks) → Choosing e vs → (b : Tok) (ts : Toks) → Leads (patterns e b) ts (λ l us. Every (Chosen n) l)
  unfolding patterns Every
  patterns_chosen e vs h b ts =
      leads_bind _ _ λ l us q. leads_while (λ l us. Every (Chosen n) l) (pattern e b) (λ l ts k. pattern_chosen e vs h b l ts k) _ l us ((pattern_chosen e vs h b [] ts tt).all l us q)

-- ---- so every cycle has a table below n, or none

abbrev Low : ℕ → Option ℕ → Type 0
Low n none = Unit {0}
Low n (some k) = k < n

abbrev pub AllLow : ℕ → List Cycle → Type 0
AllLow n [] = Unit {0}
AllLow n (c ∷ cs) = Low n c.table × AllLow n cs

low-++ : (n : ℕ) (cs ds : List Cycle) → AllLow n cs → AllLow n ds → AllLow n (cs ++ ds)
low-++ n [] ds h k = k
low-++ n (c ∷ cs) ds h k = (h.0, low-++ n cs ds h.1 k)

-- what is played from such a state
abbrev Lows : ℕ → (State → Played) → Type 0
Lows n f = (s : State) → Low n s.table → Low n (f s).0.table × AllLow n (f s).1

module _ (n : ℕ) where
  low_follow : (x : Played) (f : State → Played) → Low n x.0.table × AllLow n x.1 → Lows n f → Low n (follow x f).0.table × AllLow n (follow x f).1
  unfolding follow
  low_follow x f h k = let y = k x.0 h.0 in (y.0, low-++ n x.1 (f x.0).1 h.1 y.1)

  low_again : (m : ℕ) (f : State → Played) → Lows n f → Lows n (again m f)
  unfolding again
  low_again zero f h s w = (w, tt)
  low_again (suc m) f h s w = low_follow (f s) (again m f) (h s w) (low_again m f h)

  low_entering : (k : Kind) (a : Args) (f : State → Played) → Lows n f → Lows n (entering k a f)
  unfolding entering
  low_entering macro a f h s w = let y = h (record { pins = s.pins; table = s.table; args = a }) w in (y.0, y.1)
  low_entering procedure a f h s w = (w, (h (record { pins = _; table = s.table; args = a }) w).1)
  low_entering listed a f h s w = (w, (h (record { pins = _; table = none; args = a }) tt).1)

  low_playing : (t : ℕ) (v : Way) (f : State → Played) → Lows n f → Lows n (playing t v f)
  unfolding playing
  low_playing t (looped m) f h = low_again m f h
  low_playing t shifted f h = low_again t f h
  low_playing t (entered k u a) f h = low_entering k a f h

  either_table : (b : Bool) (x y : State) (t : Option ℕ) → x.table ≡ t → y.table ≡ t → (elim b as (λ z. State) [ true ↦ x | false ↦ y ]).table ≡ t
  either_table true x y t h k = h
  either_table false x y t h k = k

  -- assignments leave the table
  put_table : (x : ℕ × ℕ) (s : State) → (put x s).table ≡ s.table
  unfolding put
  put_table x s = either_table (eqb x.1 mark) _ _ s.table refl refl

  low_puts : (xs : Assigns) (s : State) → Low n s.table → Low n (puts xs s).table
  low_puts xs s h = subst (Low n) (sym (puts_table xs s)) h

  low_changed : (x : Setting) (s : State) → Sets n x → Low n s.table → Low n (changed x s).table
  unfolding changed
  low_changed (assigning a) s h k = low_puts a s k
  low_changed (choosing j) s h k = h

  low_play : (t : ℕ) (b : Body) → Chosen n b → Lows n (play t b)
  unfolding play cycle_at Chosen
  low_play t done c s w = (w, tt)
  low_play t (vec p a r) c s w =
      let v = low_puts a s w in
      low_follow (puts a s, cycle_at p (puts a s) ∷ []) (play t r) (v, (v, tt)) (low_play t r c)
  low_play t (set' x r) c s w = low_play t r c.1 (changed x s) (low_changed x s c.0 w)
  low_play t (inner v b r) c s w = low_follow _ (play t r) (low_playing t v _ (low_play (shift_of t v) b c.0) s w) (low_play t r c.1)

  pub low_cycles : (k : ℕ) (b : Body) → Chosen n b → AllLow n (cycles_of k b)
  unfolding cycles_of start
  low_cycles k b c = (low_play 0 b c (start k) tt).1
