-- `rows::judge` puts the answers about the name and the P4 together. Assumes nothing.
use mathlib.Core.Path.{refl, sym, subst, ap, ◌∙◌}
use Prim.Native.Nat.{◌<◌}
use Rattle.opcode.specs.P4.{Judges}
use Rattle.rows.specs.Rows.{p4_number, p4_at}
use Rattle.rows.proofs.RowLaws.{p4-small, p4_again}
use Rattle.rows.proofs.judge.Goals as goal

pub returns : goal.returns
returns c =
    let p4 = c.judge.result in
    record {
      fits = record { p4 = subst (λ n. n < 16777216) (sym c.pack_p4.ensures) (p4-small p4); p1 = c.requires.0; p2 = c.requires.1; p3 = c.requires.2 };
      op = c.opcode.ensures;
      p1 = refl;
      p2 = refl;
      p3 = refl;
      p4 = subst (λ j. Judges j c.args.p4.now) (sym (ap p4_at c.pack_p4.ensures ∙ p4_again p4)) c.judge.ensures;
      written = c.pack_p4.ensures ∙ ap p4_number (sym (ap p4_at c.pack_p4.ensures ∙ p4_again p4));
    }
