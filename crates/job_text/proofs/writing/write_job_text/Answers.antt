use Rattle.job_text.specs.Jobs.{work_line, root_line, key_line, bases_line, depth_line, sized}
use Rattle.poly_io.proofs.Parts.{prints_cut, prints_then}
use Rattle.job_text.proofs.JobLineLemmas.{lines_joined, prints_same}
use Rattle.job_text.proofs.writing.write_job_text.Goals as goal

pub returns-in_err-write_work_line : goal.returns-in_err-write_work_line
returns-in_err-write_work_line g c =
    let h = c.args.head.now in
    prints_same (lines_joined (work_line h.work) (root_line h.root.key) (key_line h.key) (bases_line h.budget.bases)
    (depth_line h.budget.depth) (sized c.args.file.now))
    (prints_cut _ c.from_residual.ensures.0 c.in_err-write_work_line.ensures)

pub returns-in_err-write_key_line : goal.returns-in_err-write_key_line
returns-in_err-write_key_line g c =
    let h = c.args.head.now in
    rw (← c.key.ensures)
    (prints_same (lines_joined (work_line h.work) (root_line c.key.result) (key_line h.key) (bases_line h.budget.bases)
    (depth_line h.budget.depth) (sized c.args.file.now))
    (prints_then c.in_ok-write_work_line.ensures (prints_cut _ c.from_residual-in_err-write_key_line.ensures.0 c.in_err-write_key_line.ensures)))

pub returns-in_err-write_key_line-2 : goal.returns-in_err-write_key_line-2
returns-in_err-write_key_line-2 g c =
    let h = c.args.head.now in
    rw (← c.key.ensures)
    (prints_same (lines_joined (work_line h.work) (root_line c.key.result) (key_line h.key) (bases_line h.budget.bases)
    (depth_line h.budget.depth) (sized c.args.file.now))
    (prints_then c.in_ok-write_work_line.ensures (prints_then c.in_ok-write_key_line.ensures (prints_cut _ c.from_residual-in_err-write_key_line-2.ensures.0 c.in_err-write_key_line-2.ensures))))

pub returns-in_err-write_count_line : goal.returns-in_err-write_count_line
returns-in_err-write_count_line g c =
    let h = c.args.head.now in
    rw (← c.key.ensures)
    (prints_same (lines_joined (work_line h.work) (root_line c.key.result) (key_line h.key) (bases_line h.budget.bases)
    (depth_line h.budget.depth) (sized c.args.file.now))
    (prints_then c.in_ok-write_work_line.ensures (prints_then c.in_ok-write_key_line.ensures (prints_then c.in_ok-write_key_line-2.ensures (prints_cut _ c.from_residual-in_err-write_count_line.ensures.0 c.in_err-write_count_line.ensures)))))

pub returns-in_err-write_count_line-2 : goal.returns-in_err-write_count_line-2
returns-in_err-write_count_line-2 g c =
    let h = c.args.head.now in
    rw (← c.key.ensures)
    (prints_same (lines_joined (work_line h.work) (root_line c.key.result) (key_line h.key) (bases_line h.budget.bases)
    (depth_line h.budget.depth) (sized c.args.file.now))
    (prints_then c.in_ok-write_work_line.ensures (prints_then c.in_ok-write_key_line.ensures (prints_then c.in_ok-write_key_line-2.ensures (prints_then c.in_ok-write_count_line.ensures (prints_cut _ c.from_residual-in_err-write_count_line-2.ensures.0 c.in_err-write_count_line-2.ensures))))))

pub returns : goal.returns
returns g c =
    let h = c.args.head.now in
    rw (← c.key.ensures)
    (prints_same (lines_joined (work_line h.work) (root_line c.key.result) (key_line h.key) (bases_line h.budget.bases)
    (depth_line h.budget.depth) (sized c.args.file.now))
    (prints_then c.in_ok-write_work_line.ensures (prints_then c.in_ok-write_key_line.ensures (prints_then c.in_ok-write_key_line-2.ensures (prints_then c.in_ok-write_count_line.ensures (prints_then c.in_ok-write_count_line-2.ensures c.write_sized.ensures))))))
