-- What the code says of a statement's head, case by case, as the definition's head.
use Rattle.std.specs.Prelude.{ℕ, ◌+◌, ◌<◌, ◌≤◌, ◌≡◌, Bool, true, false, List, [], ◌∷◌, length, ltb}
use Prim.Native.String.{String}
use Rattle.tokens.specs.Tokens.{Tok}
use Rattle.meaning.specs.Bounds.{loop_most}
use Rattle.meaning.specs.Body.{Assigns, Args, assigning, choosing, Kind, macro, procedure}
use Rattle.meaning.specs.Reader.{Reader, give}
use Rattle.meaning.specs.Statements.{Decl, Decls, Env, Head, ends, vecs, sets, loops, shifts, uses, used, shift_head, label_head}
use Rattle.measures.specs.Uses.{Given}
use Rattle.measures.specs.Book.{first_procedure, bodies, Listed, Used}
use Rattle.arguments.specs.Supplied.{Supplied}
use Rattle.words.specs.declared.Cursor.{Cursor}
use Rattle.timing.specs.Makes.{Makes}
use Rattle.heads.specs.declared.Known.{Known}
use Rattle.heads.specs.declared.Part.{Part}
use Rattle.heads.specs.declared.Headed.{Headed}
use Rattle.heads.specs.declared.What.{What}
use Rattle.heads.specs.declared.What.TheVariants.{Ends, Vector, Assigns as AssignsOnly, Chooses, Loops, Shifts, Uses as UsesBody}

-- macros are numbered before procedures
unfoldable pub kind_of : ℕ → Kind
kind_of i = elim (ltb i first_procedure) [ true ↦ macro | false ↦ procedure ]

-- the head h, with the characters that it gives in `given` and the arguments of a used body in `args`; `tables` of them are declared
unfoldable pub Tells : (text book rows given args : List ℕ) → (tables : ℕ) → What → Head → Type 0
Tells text book rows given args tables Ends h = h ≡ ends
Tells text book rows given args tables (Vector p) h = (a : Assigns) × (h ≡ vecs p a) × Given a given
Tells text book rows given args tables AssignsOnly h = (a : Assigns) × (h ≡ sets (assigning a)) × Given a given
Tells text book rows given args tables (Chooses k) h = (h ≡ sets (choosing k)) × (k < tables)
Tells text book rows given args tables (Loops n) h = (h ≡ loops n) × (1 ≤ n) × (n ≤ loop_most)
Tells text book rows given args tables Shifts h = h ≡ shifts
Tells text book rows given args tables (UsesBody i t) h =
    (name : Tok) × (x : Decl) × (a : Args) × (h ≡ uses (kind_of i) x t a) × (i < bodies) × Used text book rows i (name, x) × Supplied text a given args

-- r is the head that m reads from c, whatever the tables have
abbrev pub Plainly : (text : List ℕ) → Cursor → Reader Head → (tables : ℕ) → Headed → Type 0
Plainly text c m tables r = (book rows given args : List ℕ) → Makes text c m r.cursor (Tells text book rows given args tables r.what)

-- the declared bodies of one kind stand in the book where `part` says
pub record OfKind (text book rows : List ℕ) (part : Part) (k : Kind) (ds : Decls) : Type 0 where
  pub counted : length ds ≡ part.count
  pub few : part.first + part.count ≤ bodies
  pub kind_is : (j : ℕ) → j < part.count → kind_of (part.first + j) ≡ k
  pub listed : Listed (Used text book rows) part.first ds

-- those of some kind
pub record SomeKind (text book rows : List ℕ) (part : Part) : Type 0 where
  pub kind : Kind
  pub decls : Decls
  pub of_kind : OfKind text book rows part kind decls

-- where those of the macros stand, or of the procedures
abbrev pub part_of : Known → Bool → Part
part_of known true = record { first = 0; count = known.macros }
part_of known false = record { first = first_procedure; count = known.procs }

-- the heads behind those of V, C, W, Loop, Macro, Call and X
abbrev pub last_heads : Bool → ℕ → List (String × (ℕ → Reader Head))
last_heads may d = ("Shift", shift_head may d) ∷ ("}", λ p. give ends) ∷ []

-- the heads behind those of V, C, W and Loop
abbrev pub others : Env → Bool → ℕ → List (String × (ℕ → Reader Head))
others e may d =
    ("Macro", λ p. used macro d e.names e.macros)
    ∷ ("Call", λ p. used procedure d e.names e.procs)
    ∷ ("X", label_head e.pattern)
    ∷ last_heads may d
