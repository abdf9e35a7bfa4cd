use Rattle.gn_app.proofs.Saying.{tells_fault, tells_length}
use Rattle.gn_app.proofs.message.tell.Goals as goal

pub returns-in-Unwritable : goal.returns-in-Unwritable
returns-in-Unwritable g c =
    rw c.in-Unwritable.is (tells_fault c.in-Unwritable.taken _ _ _ c.format.ensures.text c.put_pieces-in-Unwritable.ensures)

pub returns-in-Overlong : goal.returns-in-Overlong
returns-in-Overlong g c =
    rw c.in-Overlong.is (tells_length c.in-Overlong.name.now c.in-Overlong.length _ _ _ c.format-in-Overlong.ensures.text c.put_pieces-in-Overlong.ensures)
