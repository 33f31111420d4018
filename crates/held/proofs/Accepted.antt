-- Every accepted text: in the environment E in which its declarations end, every macro, procedure and pattern is held where it is
-- declared, and the run is the listed patterns, each held where it stands.
use mathlib.Core.Path.{◌≡◌, ◌∙◌}
use mathlib.Core.List.{List}
use Prim.Native.Nat.{ℕ}
use Rattle.tokens.specs.Tokens.{Toks, toks}
use Rattle.meaning.specs.Document.{Read}
use Rattle.meaning.specs.Meaning.{given, Meaning, meaning}
use Rattle.meaning.proofs.Accepted.{accepted}
use Rattle.held.specs.Held.{Listed}
use Rattle.held.proofs.Parts.{Parts, parts}
use Rattle.held.proofs.Whole.{Whole, whole, listed_stand}
use Rattle.held.proofs.Places.{Places, places}

pub record HeldText (text : List ℕ) (m : Meaning) : Type 0 where
  pub doc : Read
  pub rest : Toks
  -- the text's parts, with E and the names
  pub parts : Parts (toks text 0) doc rest
  pub whole : Whole parts.env parts.names doc
  pub places : Places text parts.env doc
  pub tables : parts.env.tables ≡ m.tables
  pub run : Listed parts.env doc.patterns doc.listed m.run

pub accepted_held : (text : List ℕ) (m : Meaning) → meaning text ≡ given m → HeldText text m
accepted_held text m e =
    let a = accepted text m e in
    let p = (parts (toks text 0)).all a.doc a.rest a.read in
    let w = whole (toks text 0) a.doc a.rest p in
    record {
      doc = a.doc;
      rest = a.rest;
      parts = p;
      whole = w;
      places = places text a.doc a.rest p;
      tables = w.tables ∙ a.tables;
      run = listed_stand p.env a.doc.patterns w.patterns a.doc.listed m.run a.run;
    }
