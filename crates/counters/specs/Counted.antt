-- What is counted of a walk, by value. Assumes nothing.
use Rattle.std.specs.Prelude.{ℕ, ◌+◌}
use Rattle.counters.specs.declared.Counters.{Counters}

-- so many operations more were charged, and so many more were repeats
abbrev pub with_operation : Counters → ℕ → ℕ → Counters
with_operation c charged repeats =
    record { charged = c.charged + charged; loopstops = c.loopstops; gasstops = c.gasstops; repeats = c.repeats + repeats }

-- so many lineages more were closed at a row that they had handled three times, and so many more since no unit was left
abbrev pub with_result : Counters → ℕ → ℕ → Counters
with_result c loopstops gasstops =
    record { charged = c.charged; loopstops = c.loopstops + loopstops; gasstops = c.gasstops + gasstops; repeats = c.repeats }

-- one more of each
abbrev pub one_charged : Counters → Counters
one_charged c = record { charged = c.charged + 1; loopstops = c.loopstops; gasstops = c.gasstops; repeats = c.repeats }

abbrev pub one_loopstop : Counters → Counters
one_loopstop c = record { charged = c.charged; loopstops = c.loopstops + 1; gasstops = c.gasstops; repeats = c.repeats }

abbrev pub one_gasstop : Counters → Counters
one_gasstop c = record { charged = c.charged; loopstops = c.loopstops; gasstops = c.gasstops + 1; repeats = c.repeats }

abbrev pub one_repeat : Counters → Counters
one_repeat c = record { charged = c.charged; loopstops = c.loopstops; gasstops = c.gasstops; repeats = c.repeats + 1 }
