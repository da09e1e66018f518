use Rattle.block_chars.proofs.Merge.{shifted, merged-lt}
use Rattle.block_chars.proofs.merged.Goals as goal

pub overflow_add-result : goal.overflow_add-result
overflow_add-result c =
    let u = c.args.u in
    let v = c.args.v in
    let r = c.args.r in
    rw (shifted u v r c.requires.0 c.requires.1)
    (record { fits = merged-lt u v r c.requires.0 c.requires.1 c.ranges.u.fits })

pub returns : goal.returns
returns c = shifted c.args.u c.args.v c.args.r c.requires.0 c.requires.1
