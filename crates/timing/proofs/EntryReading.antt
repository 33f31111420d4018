-- Entries as they are read: CHARS with their tests, the events, and the marks; and the signals of a name.
use Prim.Native.Nat.{ℕ, suc, ◌≤◌}
use native.Mathlib.Omega.{arith}
use mathlib.Core.Path.{◌≡◌, refl, sym, ap, ◌∙◌, subst}
use mathlib.Core.Bool.{Bool, true, false, cond, not, ◌&&◌, ◌||◌}
use mathlib.Core.Option.{Option, some}
use mathlib.Core.List.{List, [], ◌∷◌, ◌++◌}
use lib.ListN.{length}
use lib.Dec.{leb, ltb, eqb}
use borrow.Author.Tests.{leb-false, not-false}
use Rattle.std.proofs.Common.{Option as Maybe}
use Rattle.tokens.specs.Written.{same}
use Rattle.tokens.specs.Tokens.{Tok, Toks, toks}
use Rattle.meaning.specs.Bounds.{entry_most}
use Rattle.meaning.specs.Refusals.{too_many, bad_waveform, bad_data}
use Rattle.meaning.specs.Lists.{repeats}
use Rattle.meaning.specs.Reader.{Res, Reader, ok, refuse, after, ◌>>=◌, give, any, due, word, until}
use Rattle.meaning.specs.Names.{find, old_name}
use Rattle.meaning.specs.Signals.{Names}
use Rattle.meaning.specs.Timing.{Wave, all_chars, taken, blanks, event, waves_for, entry, waveforms}
use Rattle.meaning.proofs.Takes.{Takes}
use Rattle.meaning.proofs.Taking.{takes_keeps, takes_due, takes_word, takes_old, takes_bind, keeps_bind, keeps_if, keeps_give, takes_until}
use Rattle.meaning.proofs.Gives.{Gives, gives_bind, gives_after, gives_give, known_ok}
use Rattle.meaning.proofs.SameTokens.{stands_there}
use Rattle.words.specs.Cursor.{ahead, alive, stream, Goes, Checked}
use Rattle.words.specs.declared.Cursor.{Cursor}
use Rattle.words.specs.Table.{names}
use Rattle.words.proofs.Flow.{then, given, checked, passed, alike, stays, read, alive_before, stream_on, stream_stop}
use Rattle.words.proofs.Words.{or_both}
use Rattle.words.proofs.Names.{old_named}
use Rattle.signals.specs.Names.{list_at, names_of}
use Rattle.timing.specs.Makes.{Makes, Brings}
use Rattle.timing.specs.Events.{events}
use Rattle.timing.specs.Marks.{Marks, mark_among, Marked, Below, AllBelow}
use Rattle.timing.specs.Parts.{chars_then, Chars}
use Rattle.timing.specs.Watch.{chars_events, Watched, Noted, looked, Placed}
use Rattle.timing.specs.declared.Watch.{Watch}
use Rattle.timing.proofs.Making.{made, first, first_then, onward}
use Rattle.timing.proofs.EventReading.{takes_event}
use Rattle.timing.proofs.Marking.{taken_marks, marks_more}
use Rattle.timing.proofs.Watching.{watched_more}

-- ---- CHARS

-- a test that did not refuse leaves the cursor where it is
unmoved : {c r : Cursor} {b : Bool} {n p : ℕ} → Checked c b n p r → eqb n 0 ≡ false → alive r ≡ true → r ≡ c
unmoved {c} {r} {b} {n} {p} e z h = e.is ∙ by (alive c) b (passed e z h)
  where
    by : (x y : Bool) → y ≡ false → cond (x && y) (record { no = n; fault = 0; at = p; end = 0 }) c ≡ c
    by true true k = let z : ◌≡◌ {A = ℕ} 0 1 = cc in absurd (omega arith)
    by true false k = refl
    by false y k = refl

pub chars_read : {text : List ℕ} {c d e f r : Cursor} {sigs table w : List ℕ} {x y z : Bool} → Below sigs → Goes text c word d (ahead text c)
    → w ≡ (ahead text c).word → Checked d (leb (suc entry_most) (length w)) too_many c.at e → x ≡ repeats w → y ≡ mark_among table sigs w
    → Checked e (x || y) bad_waveform c.at f → z ≡ all_chars w → Checked f (not z) bad_data c.at r → Chars text c sigs table r
unfolding chars_then
chars_read {text} {c} {d} {e} {f} {r} {sigs} {table} {w} {x} {y} {z} below g q h p o i l j =
    record { brings = brings; token = token; few = few; good = good }
  where
    brings : (ws : List Wave) → Marks table ws → (k : Tok → Reader (List Wave)) → Brings text c (chars_then sigs ws k) r (k (ahead text c))
    brings ws m k =
        first_then _ g
        (first_then _ (checked h (ap (λ (v : List ℕ). leb (suc entry_most) (length v)) q) refl)
        (first_then _ (checked i (or_both (p ∙ ap repeats q) (o ∙ taken_marks sigs w m below ∙ ap (λ (v : List ℕ). taken sigs v ws) q)) refl)
        (first _ (checked j (ap not (l ∙ ap all_chars q)) refl))))

    on_f : alive r ≡ true → alive f ≡ true
    on_f u = alive_before (checked {text = text} j refl refl) u

    on_e : alive r ≡ true → alive e ≡ true
    on_e u = alive_before (checked {text = text} i refl refl) (on_f u)

    token : alive r ≡ true → Goes text c word r (ahead text c)
    token u = subst (λ (x : Cursor). Goes text c word x (ahead text c)) (sym (unmoved j refl u ∙ unmoved i refl (on_f u) ∙ unmoved h refl (on_e u))) g

    few : alive r ≡ true → length (ahead text c).word ≤ entry_most
    few u = omega (arith, leb-false (suc entry_most) (length w) (passed h refl (on_e u)), ap length q)

    good : alive r ≡ true → all_chars (ahead text c).word ≡ true
    good u = sym (l ∙ ap all_chars q) ∙ not-false z (passed j refl u)

-- ---- an entry

abbrev rest : List ℕ → List Wave → Tok → Reader (List Wave)
rest sigs ws t =
    due "{" >>= λ p. event (length t.word) (blanks t.word, 0) >>= λ e. until "}" (event (length t.word)) e >>= λ es. give (ws ++ waves_for sigs t.word es.0)

pub assoc : {A B C : Type 0} (m : Reader A) (f : A → Reader B) (g : B → Reader C) (ts : Toks) → ((m >>= f) >>= g) ts ≡ (m >>= λ x. f x >>= g) ts
unfolding ◌>>=◌ after
assoc {A} {B} {C} m f g ts = by (m ts)
  where
    by : (r : Res A) → after (after r f) g ≡ after r (λ x us. after (f x us) g)
    by (ok a us) = refl
    by (refuse n p) = refl

module _ {text : List ℕ} {c d : Cursor} {sigs table : List ℕ} {ws : List Wave} (chars : Chars text c sigs table d) (m : Marks table ws) where
  pub entry_stops : {P : List Wave → Type 0} → alive d ≡ false → Makes text c (entry sigs ws) d P
  unfolding entry chars_then
  entry_stops h =
      made (onward (chars.brings ws m (rest sigs ws)) (stays {a = ws} h))
      λ k. let o : true ≡ false = sym k ∙ h in let z : ◌≡◌ {A = ℕ} 0 1 = cc in absurd (omega arith)

  module _ {e r : Cursor} {n p : ℕ} (placed : Placed text c) (brace : Goes text d (due "{") e p) (sized : length (ahead text c).word ≡ n)
      (x : Makes text e (events (ahead text c).word) r (λ s. length s.0 ≡ n)) where
    -- read again from the place of CHARS
    entry_there : alive r ≡ true → chars_events (toks text c.at) ≡ ok (ahead text c, x.it) (stream text r)
    unfolding chars_events word any ◌>>=◌ after
    entry_there h =
        let on : alive d ≡ true = alive_before brace (alive_before x.goes h) in
        let g : Goes text c chars_events r (ahead text c, x.it) = then _ (chars.token on) (then _ brace (then _ x.goes given)) in
        let again = read g h in
        by (ltb c.at c.end) refl again.on again.gave
      where
        by : (b : Bool) → ltb c.at c.end ≡ b → alive c ≡ true → chars_events (stream text c) ≡ ok (ahead text c, x.it) (stream text r)
            → chars_events (toks text c.at) ≡ ok (ahead text c, x.it) (stream text r)
        by true q o g =
            let s = stream_on text c q in
            ap chars_events (stands_there text (ahead text c) (toks text c.end) (record { at = placed.from; is = sym (sym (placed.there o) ∙ s) }) ∙ sym s) ∙ g
        by false q o g =
            let v = sym (ap chars_events (stream_stop text c q)) ∙ g in
            let z : ◌≡◌ {A = ℕ} 0 1 = cc in
            absurd (omega arith)

    pub entry_reads : {here : Bool} {w : Watch} {s s' : Maybe ℕ} {after : List ℕ} → Marked table sigs (ahead text c).word after
        → s' ≡ looked w s sigs (ahead text c).word c.at → (here ≡ true → Watched text w s ws)
        → Makes text c (entry sigs ws) r (Noted text here w after s')
    unfolding entry chars_then events
    entry_reads k l o =
        made
        (onward (chars.brings ws m (rest sigs ws))
        (then _ brace (alike (then (λ es. give (ws ++ waves_for sigs (ahead text c).word es.0)) x.goes given) (assoc _ _ _))))
        λ h.
        let all = x.held h ∙ sym sized in
        record {
          marks = marks_more x.it.0 m k all;
          watched = λ q. watched_more sigs (ahead text c).word x.it c.at all (chars.few (alive_before brace (alive_before x.goes h))) (entry_there h) l (o q);
        }

-- ---- the signals of a name

pub old_row : {text : List ℕ} {c r : Cursor} {t : Tok} {i : ℕ} (places lists : List ℕ) (count : ℕ) → Goes text c (old_name (names text places count)) r (t, i)
    → Goes text c (old_name (names_of text places lists count)) r (t, list_at lists i)
old_row {text} {c} {r} {t} {i} places lists count g =
    old_named (list_at lists) (names text places count) g

found_below : (ns : Names) (w sigs : List ℕ) → AllBelow ns → find ns w ≡ some sigs → Below sigs
unfolding find AllBelow
found_below [] w sigs h e = let z : ◌≡◌ {A = ℕ} 0 1 = cc in absurd (omega arith)
found_below (x ∷ ns) w sigs h e = by (same x.0.word w) e (found_below ns w sigs h.1)
  where
    by : (b : Bool) → ◌≡◌ {A = Option (List ℕ)} (elim b [ true ↦ some x.1 | false ↦ find ns w ]) (some sigs) → (find ns w ≡ some sigs → Below sigs) → Below sigs
    by true e ih = let q : x.1 ≡ sigs = cc in subst (λ (l : List ℕ). Below l) q h.0
    by false e ih = ih e

gives_old : (ns : Names) → AllBelow ns → Gives (λ x. Below x.1) (old_name ns)
unfolding old_name
gives_old ns h =
    gives_after _ _ _ λ t. gives_bind (λ sigs. Below sigs) _ _ _ (record { all = λ ts a us e. found_below ns t.word a h (known_ok _ _ _ ts e) }) λ sigs k. gives_give _ _ k

pub name_below : {text : List ℕ} {c r : Cursor} (ns : Names) {t : Tok} {sigs : List ℕ} → AllBelow ns → Goes text c (old_name ns) r (t, sigs) → alive r ≡ true → Below sigs
name_below ns {t = t} {sigs = sigs} h g k = (gives_old ns h).all _ (t, sigs) _ (read g k).gave

-- ---- entries and waveforms take tokens

pub takes_entry : (sigs : List ℕ) (ws : List Wave) → Takes (entry sigs ws)
unfolding entry
takes_entry sigs ws =
    takes_bind _ _ takes_word λ t. keeps_bind _ _ (keeps_if _ _ _) λ u. keeps_bind _ _ (keeps_if _ _ _) λ v. keeps_bind _ _ (keeps_if _ _ _) λ x. keeps_bind _ _ (takes_keeps (takes_due _)) λ p. keeps_bind _ _ (takes_keeps (takes_event _ _)) λ e. keeps_bind _ _ (takes_keeps (takes_until "}" _ (takes_event _) e)) λ es. keeps_give _

pub takes_waveforms : (ns : Names) (ws : List Wave) → Takes (waveforms ns ws)
unfolding waveforms
takes_waveforms ns ws =
    takes_bind _ _ (takes_old ns) λ x. keeps_bind _ _ (takes_keeps (takes_due _)) λ p. takes_keeps (takes_until "}" _ (takes_entry x.1) ws)

-- refused before its entries
pub waves_stop : {text : List ℕ} {c d e : Cursor} (ns : Names) {t : Tok} {sigs : List ℕ} {p : ℕ} (ws : List Wave) {P : List Wave → Type 0}
    → Goes text c (old_name ns) d (t, sigs) → Goes text d (due "{") e p → alive e ≡ false → Makes text c (waveforms ns ws) e P
unfolding waveforms
waves_stop ns ws g k h =
    made (then _ g (then _ k (stays {a = ws} h))) λ q. let o : true ≡ false = sym q ∙ h in let z : ◌≡◌ {A = ℕ} 0 1 = cc in absurd (omega arith)
