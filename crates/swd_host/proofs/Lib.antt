mod Words
mod Fitting
mod Frames
mod Asked
mod Asks
mod Transfers
mod Blocks
mod Sends
mod Takes
mod Gives
mod Passes
mod EarlyFrames
mod EarlyAsks
mod EarlyMoves
mod EarlyTurns
mod Working
mod Turning
mod Turned
mod StepLemmas
pub mod EventRequests
mod Going
mod Lists
mod Repeats
mod PlainShadows
pub mod Shadows
pub mod GoingOn
mod Resumed
mod Starts
mod Ends
mod Performing
mod Openings
mod Opened
mod Alone
pub mod Outsides
mod Blocked
mod Runs
pub mod Chains
pub mod ReadChains
mod SessionLaws
pub mod PlainRuns
mod FieldsLemmas
mod Making
mod SendingStages
mod Sending
mod SendingWords
mod Confirming
mod SendingTurns
mod SendingRuns
mod Listed
pub mod StandIns
pub mod Foreseeing
pub mod Folding
