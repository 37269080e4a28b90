use Rattle.ir_limits.proofs.Members.{member_known, member_frame}
use Rattle.ir_limits.proofs.laws.functions_have_frames.Goals as goal

pub returns : goal.returns
returns c = record { names = member_known; sized = member_frame }
