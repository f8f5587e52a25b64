use Rattle.bench.proofs.sums.bench_sums_open.Goals as goal

pub returns-in_default-opened : goal.returns-in_default-opened
returns-in_default-opened c h = (c.in_default-opened.field-0, rw c.in-Ok.ensures.1 at c.in_default-opened.ensures)
