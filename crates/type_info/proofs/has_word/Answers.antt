-- `type_info::has_word`: what `any` says of the windows, in the words of the text.
-- Assumes nothing.
use Rattle.std.proofs.Common.{rules, ◌≡◌, false, true, map, ℕ, length}
use Rattle.std.specs.Char.{to_ascii_lowercase}
use Rattle.std.specs.Option.{IfSome}
use Rattle.std.specs.Iterator.Runs.{IsWindowsRun}
use Rattle.type_info.proofs.Words.{windows_miss, found_word}
use Rattle.type_info.proofs.has_word.Goals as goal

pub returns : goal.returns
returns c =
    let p = c.any.ensures.runs.0 in
    let whole : c.any.result ≡ false → p.whole ≡ true = search rules in
    let misses : c.any.result ≡ false → (k : ℕ) → IfSome (p.at k) (λ x. ¬ (map to_ascii_lowercase x.now ≡ map to_ascii_lowercase c.args.word.now)) = search rules in
    let windows : IsWindowsRun p (length c.args.word.now) c.args.s.now = search rules in
    found_word c.any.result c.args.s.now c.args.word.now c.requires (search rules) (λ e. windows_miss p c.args.s.now c.args.word.now windows (whole e) (misses e))
