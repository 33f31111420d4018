-- By the marks alone: a pattern whose first token is `W` chooses a table before all else, and so do all that are listed.
use Prim.Native.Nat.{ℕ, zero, suc, ◌+◌, ◌*◌, ◌≤◌, ◌<◌}
use native.Mathlib.Omega.{arith}
use mathlib.Core.Path.{◌≡◌, refl, sym, ◌∙◌, subst}
use mathlib.Core.Bool.{true, ◌&&◌, true≢false}
use mathlib.Core.Option.{none}
use mathlib.Core.List.{List, []}
use lib.Dec.{ltb}
use lib.ListN.{length, drop, length-replicate}
use Rattle.tokens.specs.Written.{bytes, same}
use Rattle.tokens.specs.Tokens.{Tok, Toks, stop, tok, toks}
use Rattle.tokens.proofs.Bools.{both}
use Rattle.meaning.specs.Bounds.{signals_most}
use Rattle.meaning.specs.Reader.{after, ◌>>=◌, any, ahead_of, one_of, choose}
use Rattle.meaning.specs.Names.{find}
use Rattle.meaning.specs.Timing.{Tables}
use Rattle.meaning.specs.Body.{choosing, listed, Body}
use Rattle.meaning.specs.Run.{bare, start, entering, cycles_of}
use Rattle.meaning.specs.Meaning.{first_failing}
use Rattle.meaning.specs.Statements.{Env, Head, sets, chosen, head}
use Rattle.meaning.specs.Document.{Read}
use Rattle.meaning.proofs.Turns.{Good}
use Rattle.meaning.proofs.Others.{same_eq}
use Rattle.held.specs.Held.{All, free_head, Holds}
use Rattle.held.proofs.All.{all_found}
use Rattle.held.proofs.Leads.{Leads, leads_bind, leads_give}
use Rattle.held.proofs.Only.{Split, head_held}
use Rattle.held.proofs.Whole.{whole}
use Rattle.turns.specs.Few.{play_few, open_most}
use Rattle.turns.proofs.Decides.{few_decides}
use Rattle.words.specs.Table.{name_of, names}
use Rattle.words.specs.Values.{told}
use Rattle.words.specs.Cursor.{alive, stream, Stands}
use Rattle.words.specs.declared.Cursor.{Cursor}
use Rattle.timing.specs.Marks.{table_size}
use Rattle.measures.specs.Book.{first_pattern, start_at}
use Rattle.heads.specs.declared.Known.{Known}
use Rattle.texts.specs.declared.Parts.{Parts}
use Rattle.texts.proofs.Runs.{list_from}
use Rattle.noted.specs.Noted.{Noted, Fine}
use Rattle.plays.specs.Run.{Runs, SomeRun}
use Rattle.plays.proofs.Running.{found_at, Left, next_left}
use Rattle.plays.proofs.Texts.{run_begins, run_sound, upcoming, listed_next}
use Rattle.grants.specs.Grants.{TableFirst, ListedFirst, Marking}
use Rattle.grants.proofs.Calm.{pattern_plays}

-- ---- the first statement

module _ (e : Env) where
  IsChoice : Head → Toks → Type 0
  IsChoice h us = (k : ℕ) × (h ≡ sets (choosing k))

  choice_leads : (ts : Toks) → Leads (chosen e.tables) ts IsChoice
  unfolding chosen IsChoice
  choice_leads ts = leads_bind _ _ λ x vs v. leads_bind _ _ λ q ws w. leads_give _ (x.1, refl)

  choice_at : (p : ℕ) (ts : Toks) → Leads (free_head e) (tok (record { at = p; word = bytes "W" }) ts) IsChoice
  unfolding head choose any ◌>>=◌ after one_of same bytes
  choice_at p ts = record { all = (choice_leads ts).all }

  choice_head : (t : Tok) (ts : Toks) → t.word ≡ bytes "W" → Leads (free_head e) (tok t ts) IsChoice
  choice_head t ts q = subst (λ (w : List ℕ). Leads (free_head e) (tok (record { at = t.at; word = w }) ts) IsChoice) (sym q) (choice_at t.at ts)

  -- THE LAW of one body
  pub table_first : (ts : Toks) (b : Body) (us : Toks) → Holds e ts b us → ahead_of (bytes "W") ts ≡ true → TableFirst b
  unfolding ahead_of IsChoice
  table_first (stop n p) b us x a = absurd (true≢false (sym a))
  table_first (tok t ts) b us x a =
      let i = head_held e (tok t ts) b us x in
      let c = (choice_head t ts (same_eq t.word (bytes "W") a)).all i.0 i.1 i.2 in
      let s = subst (λ (h : Head). Split e h i.1 b us) c.1 i.3 in
      record { table = c.0; rest = s.0; is = s.1 }

-- the code finds the number i of the pattern, and `W` where that begins
pub listed_first : {text book list part v : List ℕ} {patterns k i at : ℕ} {c : Cursor} → part ≡ drop (first_pattern * 2) book → v ≡ (name_of text list k).word
    → told (ltb i patterns) i ≡ find (names text part patterns) v → (i < patterns → at ≡ start_at book (first_pattern + i)) → Stands text at c
    → (alive c && ahead_of (bytes "W") (stream text c)) ≡ true → ListedFirst text book list patterns k
listed_first {text} {i = i} {c = c} p w f b s a = record {
  first = λ places lists tplaces rows waves known signals E ps d n. (
      let x = found_at n i p w f in
      let there = b x.0 in
      table_first E (stream text c) d.body n.stands.0 (rw (s.there, there, ← x.2.from) n.stands.1) (both (alive c) (ahead_of (bytes "W") (stream text c)) a).1);
}

-- ---- the run

-- a listed pattern plays
listed_plays : (tabs : Tables) (tables n : ℕ) (used : List ℕ) → Fine tables used tabs → n ≤ signals_most → (b : Body) → Good b → TableFirst b → Noted tables used b
    → first_failing tabs (entering listed [] (play_few open_most 0 b) (start n)).1 ≡ none
unfolding entering bare start
listed_plays tabs tables n used fine few b good f x =
    (few_decides 0 b good _ tabs).1 ∙ rw (length-replicate {A = ℕ} n 0, f.is) (pattern_plays tabs tables used fine n f.table f.rest few (rw f.is at x))

module _ (text places lists tplaces waves book rows list : List ℕ) (known : Known) (signals listed patterns : ℕ) {p : Parts} {d : Read} {run : Body}
    (h : Runs text places lists tplaces waves book rows list known signals listed patterns p d run) (used : List ℕ)
    (noted : All (λ x. Noted known.tables used x.1.body) d.patterns)
    (fine : Fine known.tables used d.tables) (first : (k : ℕ) → k < listed → ListedFirst text book list patterns k) where
  abbrev env : Env
  env = h.tabled.parts.env

  env_fine : Fine known.tables used env.tables
  env_fine = rw (whole (toks text 0) d h.tabled.rest h.tabled.parts).tables fine

  all_left : (k : ℕ) → k ≤ listed → Left env.tables signals env d.patterns run (list_from text list listed k)
  all_left zero q = run_begins text places lists tplaces waves book rows list known signals listed patterns h
  all_left (suc k) q =
      let l = all_left k (omega arith) in
      let b : k < listed = q in
      let n = listed_next text places lists tplaces waves book rows list known signals listed patterns h l b in
      let u = upcoming text places lists tplaces waves book rows list known signals listed patterns h l b in
      let e : k + 1 ≡ suc k = omega arith in
      let f = (first k b).first places lists tplaces rows waves known signals env d.patterns u.decl n in
      let m = (all_found (λ x. Noted known.tables used x.1.body) d.patterns noted _ u.decl u.found).1 in
      subst (λ (j : ℕ). Left env.tables signals env d.patterns run (list_from text list listed j)) e
      (next_left u (listed_plays env.tables known.tables signals used env_fine (rw h.signals_is at h.tabled.few_signals) u.decl.body n.fits.good f m))

  -- THE LAW of the run
  pub plain_sound : first_failing d.tables (cycles_of (length d.signals) run) ≡ none
  plain_sound = run_sound text places lists tplaces waves book rows list known signals listed patterns h (all_left listed (omega arith)) (omega arith)

-- for callers: what tables that hold some text have
pub some_marking : {text places lists tplaces waves book rows list used : List ℕ} {known : Known} {signals listed patterns : ℕ}
    → SomeRun text places lists tplaces waves book rows list known signals listed patterns → length used ≡ table_size → Marking book waves used known.tables patterns
some_marking s e =
    let t = s.runs.tabled in
    record {
      book_long = t.describes.book_long;
      waves_long = t.waves_long;
      used_long = e;
      few_tables = rw s.runs.known_is at t.describes.few_tables;
      few_patterns = rw s.runs.patterns_is at t.few_patterns;
    }
