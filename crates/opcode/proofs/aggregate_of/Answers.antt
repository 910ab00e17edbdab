-- `opcode::aggregate_of`: the table has the prefixes of the definition, and a text with another first byte has none. Assumes nothing.
use mathlib.Core.Path.{◌≡◌, refl, ap, ◌∙◌}
use mathlib.Core.List.{List, [], ◌∷◌}
use Prim.Native.Nat.{ℕ}
use native.Mathlib.Omega.{arith}
use borrow.Author.Rules.{rules}
use lib.ListN.{get_or, get_or-eq_default}
use borrow.Author.Tests.{ne_eqb}
use Rattle.type_info.specs.Ascii.{ascii, starts_with}
use Rattle.model.specs.TextTable.{first_for, or_else}
use Rattle.model.specs.Functions.{to_operand, prefixes, aggregate_of}
use Rattle.std.specs.Option.{unwrap_or}
use Rattle.opcode.specs.P4.{given_by}
use Rattle.opcode.specs.declared.Aggregate.TheVariants.{Operand}
use Rattle.opcode.proofs.Tables.{Agrees, look_up}
use Rattle.opcode.proofs.aggregate_of.Goals as goal

-- no prefix begins with the byte
abbrev Other : ℕ → Type 0
Other b = (b ≡ 99 → ⊥) × (b ≡ 114 → ⊥) × (b ≡ 100 → ⊥) × (b ≡ 110 → ⊥) × (b ≡ 112 → ⊥) × (b ≡ 115 → ⊥) × (b ≡ 108 → ⊥)

no-aggregate : (text : List ℕ) → Other (get_or text 0 0) → to_operand ≡ aggregate_of text
unfolding aggregate_of prefixes first_for starts_with ascii
no-aggregate [] n = refl
no-aggregate (b ∷ rest) (c, r, d, n, p, s, l) =
    rw (ne_eqb b 99 c, ne_eqb b 114 r, ne_eqb b 100 d, ne_eqb b 110 n, ne_eqb b 112 p, ne_eqb b 115 s, ne_eqb b 108 l)

pub returns-in-99 : goal.returns-in-99
unfolding aggregate_of prefixes Agrees
returns-in-99 c = ap given_by c.unwrap_or.ensures ∙ look_up (λ o. given_by (unwrap_or o Operand)) (or_else to_operand) refl c.args.text.now prefixes _ c.find.ensures refl

pub returns-in_default : goal.returns-in_default
returns-in_default c =
    let none : get_or c.args.text.now 0 0 ≡ 0 = get_or-eq_default c.args.text.now 0 (omega arith) in
    no-aggregate c.args.text.now (omega arith, omega arith, omega arith, omega arith, omega arith, omega arith, omega arith)

pub returns-in_default-2 : goal.returns-in_default-2
returns-in_default-2 c = no-aggregate c.args.text.now (omega arith, omega arith, omega arith, omega arith, omega arith, omega arith, omega arith)

pub returns-in_default-3 : goal.returns-in_default-3
returns-in_default-3 c = no-aggregate c.args.text.now (omega arith, omega arith, omega arith, search rules, search rules, omega arith, search rules)

pub returns-in_default-4 : goal.returns-in_default-4
returns-in_default-4 c = no-aggregate c.args.text.now (omega arith, omega arith, omega arith, omega arith, omega arith, omega arith, omega arith)
