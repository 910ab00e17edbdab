-- The ★ listings of 01, "Sample runs", as texts with what the call makes of them: one table; proofs/Stars.antt has the one proof over it.
-- Assumes nothing.
use Rattle.std.specs.Prelude.{◌≡◌, List, [], ◌∷◌, ℕ, length}
use Prim.Native.String.{String}
use Rattle.type_info.specs.Ascii.{ascii}
use Rattle.model.specs.Walk.{Tried, refused, done}
use Rattle.model.specs.Call.{leave, call}

pub record Star : Type 0 where
  pub listing : String
  -- the answer's text, or the refusal
  pub outcome : Tried (List ℕ)

abbrev pub answers : String → String → Star
answers l a = record { listing = l; outcome = done (ascii a) }

abbrev pub refuses : String → ℕ → Star
refuses l k = record { listing = l; outcome = refused k }

unfoldable pub stars : List Star
stars =
    -- ★A: Init 0 1 0; Integer 7 1 0; Null 0 2 0; ResultRow 1 2 0; Halt 0 0 0
    answers "addr=0\nop=Init\np1=0\np2=1\np3=0\np4=\naddr=1\nop=Integer\np1=7\np2=1\np3=0\np4=\naddr=2\nop=Null\np1=0\np2=2\np3=0\np4=\naddr=3\nop=ResultRow\np1=1\np2=2\np3=0\np4=\naddr=4\nop=Halt\np1=0\np2=0\np3=0\np4=\n" "columns=2\ncharged=5\nloopstops=0\ngasstops=0\nrepeats=0\ncol=0\ntype=Integer\nnull=no\ncol=1\ntype=Null\nnull=yes\n"
    -- Goto 0 0 0
    ∷ answers "addr=0\nop=Goto\np1=0\np2=0\np3=0\np4=\n" "columns=0\ncharged=4\nloopstops=1\ngasstops=0\nrepeats=0\n"
    -- Eq 0 0 0
    ∷ answers "addr=0\nop=Eq\np1=0\np2=0\np3=0\np4=\n" "columns=0\ncharged=2\nloopstops=0\ngasstops=0\nrepeats=0\n"
    -- Jump 5 5 5; Integer 3 1 0; ResultRow 1 1 0; Halt 0 0 0
    ∷ answers "addr=0\nop=Jump\np1=5\np2=5\np3=5\np4=\naddr=1\nop=Integer\np1=3\np2=1\np3=0\np4=\naddr=2\nop=ResultRow\np1=1\np2=1\np3=0\np4=\naddr=3\nop=Halt\np1=0\np2=0\np3=0\np4=\n" "columns=1\ncharged=4\nloopstops=0\ngasstops=0\nrepeats=0\ncol=0\ntype=Integer\nnull=no\n"
    -- Integer -1 1 0; Return 1 0 0
    ∷ answers "addr=0\nop=Integer\np1=-1\np2=1\np3=0\np4=\naddr=1\nop=Return\np1=1\np2=0\np3=0\np4=\n" "columns=0\ncharged=7\nloopstops=1\ngasstops=0\nrepeats=0\n"
    -- Eq 0 3 0; Integer 1 1 0; Goto 0 4 0; String8 0 1 0; ResultRow 1 1 0; Halt 0 0 0
    ∷ answers "addr=0\nop=Eq\np1=0\np2=3\np3=0\np4=\naddr=1\nop=Integer\np1=1\np2=1\np3=0\np4=\naddr=2\nop=Goto\np1=0\np2=4\np3=0\np4=\naddr=3\nop=String8\np1=0\np2=1\np3=0\np4=\naddr=4\nop=ResultRow\np1=1\np2=1\np3=0\np4=\naddr=5\nop=Halt\np1=0\np2=0\np3=0\np4=\n" "columns=1\ncharged=8\nloopstops=0\ngasstops=0\nrepeats=0\ncol=0\ntype=Text\nnull=no\n"
    -- ResultRow -5 0 0
    ∷ answers "addr=0\nop=ResultRow\np1=-5\np2=0\np3=0\np4=\n" "columns=0\ncharged=1\nloopstops=0\ngasstops=0\nrepeats=0\n"
    -- MakeRecord 1 -1 1
    ∷ refuses "addr=0\nop=MakeRecord\np1=1\np2=-1\np3=1\np4=\n" 6
    ∷ []

-- no catalogue, and an area and an answer buffer of 65,536 bytes, whatever the buffer holds, as `colkinds` has them
abbrev pub Holds : Star → Type 0
Holds s = (answer : List ℕ) → length answer ≡ 65536 → call (ascii s.listing) [] 65536 answer ≡ leave answer s.outcome
