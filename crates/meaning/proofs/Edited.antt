-- THE THEOREM of request 14: of two accepted texts that are equal up to one Pattern block and equal behind it, the block having the same name
-- in both, every listed pattern of another name gives the same rows, as many, whatever the mark.
use mathlib.Core.Path.{◌≡◌, refl, sym, ap, ◌∙◌, subst}
use Prim.Native.Nat.{ℕ, ◌+◌}
use native.Mathlib.Nat.{zero-add}
use native.Mathlib.Omega.{arith}
use mathlib.Core.Bool.{Bool, true, false}
use mathlib.Core.List.{List, [], ◌∷◌, ◌++◌}
use lib.ListN.{length, drop}
use lib.Seq.{drop-drop}
use Rattle.tokens.specs.Written.{bytes, starts}
use Rattle.tokens.specs.Bytes.{wordy}
use Rattle.tokens.specs.Tokens.{Toks, tok, plain, run, lex, toks}
use Rattle.meaning.specs.Reader.{is_word}
use Rattle.meaning.specs.Document.{over}
use Rattle.meaning.specs.Meaning.{given, Meaning, meaning}
use Rattle.meaning.specs.Edited.{PatternBlock, listed_in, listed_of, listed_patterns, OthersSame}
use Rattle.meaning.proofs.Accepted.{accepted}
use Rattle.meaning.proofs.Others.{others_same}
use Rattle.meaning.proofs.Alike.{AtBlock, Border}
use Rattle.meaning.proofs.Braces.{shut, behind_brace}
use Rattle.meaning.proofs.SameTokens.{Stands, stands_on, stands_there, stands_token, behind_matching, word_run, same_front, SameToEnd, same_back}
use Rattle.meaning.proofs.AlikePatterns.{Opens, agree}
use Rattle.meaning.proofs.AlikeStatements.{word_pattern}

-- ---- the block's bytes

drop_front : {A : Type 0} (f s : List A) → drop (length f) (f ++ s) ≡ s
drop_front [] s = refl
drop_front (b ∷ f) s = drop_front f s

-- a text that begins with the word begins with its first byte
starts_run : (s : List ℕ) → run s ≡ bytes "Pattern" → (c : ℕ) → starts c s ≡ starts c (bytes "Pattern")
unfolding run starts bytes
starts_run [] e c = let z : ◌≡◌ {A = ℕ} 0 1 = cc in absurd (omega arith)
starts_run (b ∷ s) e c = by (wordy b) e
  where
    by : (w : Bool) → ◌≡◌ {A = List ℕ} (elim w [ true ↦ b ∷ run s | false ↦ [] ]) (bytes "Pattern") → starts c (b ∷ s) ≡ starts c (bytes "Pattern")
    by true e = let q : b ∷ run s ≡ bytes "Pattern" = e in ap (starts c) q
    by false e = let z : ◌≡◌ {A = ℕ} 0 1 = cc in absurd (omega arith)

module _ (front block back name : List ℕ) (P : PatternBlock (front ++ (block ++ back)) (length front) (length front + length block) name) where
  abbrev text : List ℕ
  text = front ++ (block ++ back)

  stands : Stands text (tok P.word (tok P.named (tok P.brace P.inside)))
  stands = subst (Stands text) P.opens (stands_token text P.before (toks text 0) (record { at = 0; is = refl }))

  -- the block's first word is the longest run there
  block_run : run (block ++ back) ≡ bytes "Pattern"
  unfolding toks
  block_run =
      let e : lex plain P.word.at (drop P.word.at text) ≡ tok P.word (tok P.named (tok P.brace P.inside)) = stands_there text _ _ stands in
      let d : drop P.word.at text ≡ block ++ back = ap (λ (n : ℕ). drop n text) P.first ∙ drop_front front (block ++ back) in
      sym (ap run d) ∙ word_run P.word.at _ _ _ e refl (word_pattern P.word P.is_pattern) ∙ P.is_pattern

  -- behind the block its text's back is read
  block_end : shut 1 P.inside ≡ lex plain (length front + length block) back
  unfolding toks
  block_end =
      let x = behind_brace 0 P.inside P.last P.behind P.closes in
      let i : Stands text P.inside = stands_on text _ _ (stands_on text _ _ (stands_on text _ _ stands)) in
      let y : P.behind ≡ toks text (P.last.at + 1) = behind_matching text P.inside i P.last P.behind P.closes x.1 in
      let d : drop (length front + length block) text ≡ back =
      sym (drop-drop (length block) (length front) text) ∙ ap (drop (length block)) (drop_front front (block ++ back)) ∙ drop_front block back in
      x.0 ∙ y ∙ ap (toks text) P.end ∙ ap (lex plain (length front + length block)) d

  -- and `Pattern NAME {` stands at its beginning
  at_block : AtBlock (tok P.word (tok P.named (tok P.brace P.inside)))
  at_block = (P.is_pattern, (ap is_word P.is_named ∙ P.is_word_lem, P.is_brace))

  opens : Opens name (tok P.word (tok P.named (tok P.brace P.inside))) P.inside
  opens = record { word = P.word; named = P.named; brace = P.brace; is = refl; is_named = P.is_named }

-- THE THEOREM
pub one_pattern_edited : (mark : ℕ) (front block block' back name : List ℕ) (m m' : Meaning)
    → meaning (front ++ (block ++ back)) ≡ given m → meaning (front ++ (block' ++ back)) ≡ given m'
    → PatternBlock (front ++ (block ++ back)) (length front) (length front + length block) name
    → PatternBlock (front ++ (block' ++ back)) (length front) (length front + length block') name
    → OthersSame name (listed_patterns mark (front ++ (block ++ back))) (listed_patterns mark (front ++ (block' ++ back)))
unfolding listed_patterns listed_of toks over
one_pattern_edited mark front block block' back name m m' e d P Q =
    let B : Border = record {
      first = tok P.word (tok P.named (tok P.brace P.inside));
      second = tok Q.word (tok Q.named (tok Q.brace Q.inside));
      at_first = at_block front block back name P;
      at_second = at_block front block' back name Q;
      level = refl;
    } in
    let r = block_run front block back name P in
    let s = block_run front block' back name Q in
    let st : (c : ℕ) → starts c (block ++ back) ≡ starts c (block' ++ back) = λ c. starts_run (block ++ back) r c ∙ sym (starts_run (block' ++ back) s c) in
    let l = same_front B P.word Q.word _ _ refl refl (block ++ back) (block' ++ back) (r ∙ sym s) (st 47) (st 42) front plain 0 P.before Q.before P.opens Q.opens
    (P.first ∙ sym (zero-add _)) (Q.first ∙ sym (zero-add _)) in
    let E : SameToEnd (shut 1 P.inside) (shut 1 Q.inside) =
    subst (λ (z : Toks). SameToEnd z (shut 1 Q.inside)) (sym (block_end front block back name P))
    (subst (λ (z : Toks). SameToEnd (lex plain (length front + length block) back) z) (sym (block_end front block' back name Q)) (same_back back _ _)) in
    let a = accepted (front ++ (block ++ back)) m e in
    let b = accepted (front ++ (block' ++ back)) m' d in
    let g = agree name B P.inside Q.inside (opens front block back name P) (opens front block' back name Q) E l.0 _ _ l.1
    a.doc a.rest a.read b.doc b.rest b.read in
    rw (a.read, b.read) (
    subst (λ (n : ℕ). OthersSame name (listed_in mark (length a.doc.signals) a.doc.patterns a.doc.listed) (listed_in mark n b.doc.patterns b.doc.listed)) g.signals
    (others_same mark name (length a.doc.signals) a.doc.patterns b.doc.patterns g.patterns a.doc.listed b.doc.listed g.listed))
