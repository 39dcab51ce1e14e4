mod LoneRequests
mod SessionEnds
mod Sessions
