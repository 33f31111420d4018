-- The directions that are read back are those that were written.
use Prim.Native.Nat.{ℕ}
use native.Mathlib.Omega.{arith}
use mathlib.Core.Path.{◌≡◌, refl, sym, ap, ap₂, ◌∙◌, subst}
use mathlib.Core.List.{List, [], ◌∷◌, ◌++◌}
use lib.ListN.{length}
use Rattle.tokens.specs.Written.{bytes}
use Rattle.tokens.specs.Bytes.{blank}
use Rattle.tokens.specs.Tokens.{Tok, Toks, tok}
use Rattle.meaning.specs.Reader.{◌>>◌, due, closed, until}
use Rattle.meaning.specs.Names.{due_among}
use Rattle.meaning.specs.Signals.{Names, directions, signal, signals, signal_up_to, signals_up_to}
use Rattle.meaning.specs.Meaning.{firsts}
use Rattle.held.proofs.Rest.{moves_leaves, moves_due}
use Rattle.held.proofs.Grammar.{moves_signal}
use Rattle.held.proofs.Leads.{Leads, leads_bind, leads_give, leads_if, leads_while}
use Rattle.held.proofs.Due.{any_is, new_is, due_is}
use Rattle.held.proofs.Places.{Stream, rest_stream}
use Rattle.folded.specs.Pieces.{Piece, each, only, closing, lf}
use Rattle.folded.specs.Flat.{first_word, direction, directed}
use Rattle.folded.specs.Layout.{signal_put, signals_put}
use Rattle.folded.proofs.Words.{words, sign, Before}
use Rattle.folded.proofs.SignalsBack.{Directed}
use Rattle.folded.proofs.Sources.{new_reads, directed_more}

-- ---- name, direction, `;` again and again

abbrev pub Took : Toks → List Directed → Toks → Type 0
Took T [] ts = T ≡ ts
Took T (x ∷ xs) ts = (t : Tok) × (u : Tok) × (v : Tok) × (rest : Toks) × (T ≡ tok t (tok u (tok v rest))) × (t.word ≡ x.0) × (u.word ≡ x.1) × Took rest xs ts

took_more : (T : Toks) (xs : List Directed) (ts : Toks) → Took T xs ts → (t u v : Tok) (us : Toks) → ts ≡ tok t (tok u (tok v us)) → Took T (xs ++ (t.word, u.word) ∷ []) us
took_more T [] ts h t u v us e = (t, u, v, us, h ∙ e, refl, refl, refl)
took_more T (x ∷ xs) ts h t u v us e = (h.0, h.1, h.2, h.3, h.4, h.5, h.6, took_more h.3 xs ts h.7 t u v us e)

module _ (text : List ℕ) where
  -- one signal's three tokens
  pub record One (ns ms : Names) (ts us : Toks) : Type 0 where
    pub name : Tok
    pub way : Tok
    pub end : Tok
    pub stands : ts ≡ tok name (tok way (tok end us))
    pub list : List ℕ
    pub is : ms ≡ ns ++ (name, list) ∷ []
    pub directs : direction text name ≡ way.word

  signal_one : (ns : Names) (ts : Toks) → Stream text ts → Leads (signal ns) ts (λ ms us. One ns ms ts us)
  unfolding signal_up_to due_among direction first_word
  signal_one ns ts s =
      leads_bind _ _ λ t vs v. leads_if _ _ _ _ λ c. leads_bind _ _ λ p ws w. leads_bind _ _ λ q xs x.
      let a = (new_is ns ts).all t vs v in
      let r = (new_reads text ns ts s).all t vs v in
      let m = (among_is vs).all p ws w in
      let d = (due_is (bytes ";") ws).all q xs x in
      leads_give _ (record {
        name = t;
        way = m.0;
        end = record { at = q; word = bytes ";" };
        stands = a ∙ ap (tok t) (m.1 ∙ ap (tok m.0) d);
        list = length ns ∷ [];
        is = refl;
        directs = ap first_word (sym r.0.behind ∙ m.1);
      })
    where
      among_is : (vs : Toks) → Leads (due_among directions) vs (λ p us. (u : Tok) × (vs ≡ tok u us))
      among_is vs = leads_bind _ _ λ u us q. leads_if _ _ _ _ λ c. leads_give _ (u, (any_is vs).all u us q)

  abbrev Along : Toks → Names → Toks → Type 0
  Along T ns ts = Stream text ts × Took T (directed text (firsts ns)) ts

  signal_took : (T : Toks) (ns : Names) (ts : Toks) → Along T ns ts → Leads (signal ns) ts (Along T)
  signal_took T ns ts h = record {
    all = λ ms us q. (
        let o = (signal_one ns ts h.0).all ms us q in
        let k = took_more T (directed text (firsts ns)) ts h.1 o.name o.way o.end us o.stands in
        let l : directed text (firsts ns) ++ (o.name.word, o.way.word) ∷ [] ≡ directed text (firsts ms) =
        ap (λ (w : List ℕ). directed text (firsts ns) ++ (o.name.word, w) ∷ []) (sym o.directs) ∙ sym (directed_more text ns (o.name, o.list)) ∙ ap (λ (x : Names). directed text (firsts x)) (sym o.is) in
        (rest_stream text ((moves_leaves (moves_signal ns)).rest ts ms us q) h.0, subst (λ xs. Took T xs us) l k));
  }

  -- all of them, behind `Signals {`
  pub record Whole (ns : Names) (ts : Toks) : Type 0 where
    pub word : Tok
    pub brace : Tok
    pub inside : Toks
    pub end : Toks
    pub opens : ts ≡ tok word (tok brace inside)
    pub took : Took inside (directed text (firsts ns)) end

  closed_took : (T : Toks) (ns : Names) (xs : Toks) → Along T ns xs → Leads (closed "}" signal ns) xs (λ y us. (end : Toks) × Took T (directed text (firsts y.0)) end)
  unfolding closed
  closed_took T ns xs i = leads_bind _ _ λ z zs z-is. leads_bind _ _ λ p us u. leads_give _ (zs, ((leads_while (Along T) signal (signal_took T) _ ns xs i).all z zs z-is).1)

  pub signals_took : (ts : Toks) → Stream text ts → Leads signals ts (λ ns us. Whole ns ts)
  unfolding signals_up_to until directed firsts
  signals_took ts s =
      leads_bind _ _ λ p vs v. leads_bind _ _ λ q ws w. leads_bind _ _ λ ns xs x. leads_bind _ _ λ y ys y-is.
      let a = rest_stream text ((moves_leaves (moves_due _)).rest _ _ _ v) s in
      let b = rest_stream text ((moves_leaves (moves_due _)).rest _ _ _ w) a in
      let c = (closed_took ws ns xs ((signal_took ws [] ws (b, refl)).all ns xs x)).all y ys y-is in
      leads_give _ (record {
        word = record { at = p; word = bytes "Signals" };
        brace = record { at = q; word = bytes "{" };
        inside = ws;
        end = c.0;
        opens = (due_is (bytes "Signals") ts).all p vs v ∙ ap (tok (record { at = p; word = bytes "Signals" })) ((due_is (bytes "{") vs).all q ws w);
        took = c.1;
      })

-- ---- against the words that were written

pub next_token_lem : (w : List ℕ) (ws : List (List ℕ)) (ts us : Toks) → Before (w ∷ ws) ts us → (t : Tok) (vs : Toks) → ts ≡ tok t vs → (t.word ≡ w) × Before ws vs us
next_token_lem w ws ts us h t vs e =
    let q : tok h.0 h.1 ≡ tok t vs = sym h.2 ∙ e in
    let a : h.0 ≡ t = cc in
    let b : h.1 ≡ vs = cc in
    (ap (λ (x : Tok). x.word) (sym a) ∙ h.3, subst (λ x. Before ws x us) b h.4)

pub written_took : (T : Toks) (ys xs : List Directed) (ts us : Toks) (k : List Piece) → Took T ys ts → Before (words (each signal_put xs k)) T us → length ys ≡ length xs → ys ≡ xs
unfolding each signal_put words sign blank
written_took T [] [] ts us k h b l = refl
written_took T [] (x ∷ xs) ts us k h b l = absurd (omega arith)
written_took T (y ∷ ys) [] ts us k h b l = absurd (omega arith)
written_took T (y ∷ ys) (x ∷ xs) ts us k h b l =
    let more = words (each signal_put xs k) in
    let n = next_token_lem x.0 (x.1 ∷ (59 ∷ []) ∷ more) T us b h.0 (tok h.1 (tok h.2 h.3)) h.4 in
    let d = next_token_lem x.1 ((59 ∷ []) ∷ more) (tok h.1 (tok h.2 h.3)) us n.1 h.1 (tok h.2 h.3) refl in
    let e = next_token_lem (59 ∷ []) more (tok h.2 h.3) us d.1 h.2 h.3 refl in
    let same : y ≡ x = ap₂ (λ (a b : List ℕ). (a, b)) (sym h.5 ∙ n.0) (sym h.6 ∙ d.0) in
    ap₂ (λ (a : Directed) (b : List Directed). a ∷ b) same (written_took h.3 ys xs ts us k h.7 e.1 (omega arith))

-- THE LAW: the signals that were written are read back with their directions
pub directions_read : (text : List ℕ) (xs : List Directed) (k : List Piece) (ns : Names) (ts us : Toks) → Before (words (signals_put xs k)) ts us → Whole text ns ts
    → length (directed text (firsts ns)) ≡ length xs → directed text (firsts ns) ≡ xs
unfolding signals_put words sign blank bytes
directions_read text xs k ns ts us b w l =
    let inner = words (each signal_put xs (only closing ∷ only lf ∷ k)) in
    let x = next_token_lem (bytes "Signals") (bytes "{" ∷ inner) ts us b w.word (tok w.brace w.inside) w.opens in
    let y = next_token_lem (bytes "{") inner (tok w.brace w.inside) us x.1 w.brace w.inside refl in
    written_took w.inside (directed text (firsts ns)) xs w.end us (only closing ∷ only lf ∷ k) w.took y.1 l

-- what stands behind `STIL 1.0;`
pub behind_version : (ts : Toks) → Leads (do due "STIL"; due "1.0"; due ";") ts (λ n us. (ws : List (List ℕ)) (vs : Toks) → Before (bytes "STIL" ∷ bytes "1.0" ∷ bytes ";" ∷ ws) ts vs → Before ws us vs)
behind_version ts = leads_bind _ _ λ p vs v. leads_bind _ _ λ q ws w. record {
  all = λ n us u ks end b. (
      let x = next_token_lem _ (bytes "1.0" ∷ bytes ";" ∷ ks) ts end b _ vs ((due_is (bytes "STIL") ts).all p vs v) in
      let y = next_token_lem _ (bytes ";" ∷ ks) vs end x.1 _ ws ((due_is (bytes "1.0") vs).all q ws w) in
      (next_token_lem _ ks ws end y.1 _ us ((due_is (bytes ";") ws).all n us u)).1);
}
