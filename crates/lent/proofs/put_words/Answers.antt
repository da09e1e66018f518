-- `lent::put_words` meets its contract: a part is written over.
use mathlib.Core.Path.{refl, ◌∙◌}
use native.Mathlib.Omega.{arith}
use lib.ListN.{length}
use lib.Seq.{take_all}
use Rattle.std.proofs.lemmas.Slice.{put_mid-paste}
use Rattle.snap_core.specs.Buffers.{put}
use Rattle.lent.proofs.put_words.Goals as goal

pub returns : goal.returns
unfolding put
returns c =
    let from = c.args.from.now in
    put_mid-paste _ _ _ _ from (length from) c.copy_from_slice.ensures.after (omega arith) refl ∙ rw (take_all (length from) from (omega arith))
