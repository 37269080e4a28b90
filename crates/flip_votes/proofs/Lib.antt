mod VotedRuns
mod VoteWindows
mod VotedVersions
mod VotedAccesses
